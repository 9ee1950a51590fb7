use Rattle.std.proofs.Common.{◌≡◌, ◌≤◌, ℕ, [], length, map, take, drop}
use Rattle.std.specs.Vec.{vec_capacity}
use Rattle.typed_path.specs.components.{parts, parts_of}
use Rattle.typed_path.specs.changes.{push_all, FitsEach, IsKnown}
use Rattle.typed_path.specs.conversions.{crossed, crossed_all}
use Rattle.typed_path.specs.views.BodyViews.{body_items}
use Rattle.typed_path.specs.views.SpanViews.{span_bytes}
use Rattle.typed_path.proofs.conversions.push_each.Given as goal

abbrev pub decreases-steps : goal.decreases-steps
decreases-steps g l = length (body_items l.body)

abbrev pub invariant-steps : goal.invariant-steps
invariant-steps g l =
    let e = g.U.Encoding.dialect in
    let parts_left = parts (body_items l.body) in
    record {
      pushed : crossed_all e (parts_of g.T.Encoding.dialect (span_bytes l.path)) ≡ push_all e (drop l.start l.text.items) (map (crossed e) parts_left);
      kept : take l.start l.text.items ≡ take l.start l.fn.text.items;
      long : l.start ≤ length l.text.items;
      capacity : vec_capacity l.fn.text ≤ vec_capacity l.text;
      known : IsKnown e l.known (drop l.start l.text.items);
      fits : (room : ℕ) → FitsEach e room [] (map (crossed e) (parts_of g.T.Encoding.dialect (span_bytes l.path)))
          → FitsEach e room (drop l.start l.text.items) (map (crossed e) parts_left);
    }
