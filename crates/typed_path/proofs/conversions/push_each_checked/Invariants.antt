use Rattle.std.proofs.Common.{◌≡◌, ◌≤◌, length, take, drop, Ok}
use Rattle.typed_path.specs.components.{parts}
use Rattle.typed_path.specs.changes.{IsKnown}
use Rattle.typed_path.specs.conversions.{push_checked_each, converted_checked}
use Rattle.typed_path.specs.views.BodyViews.{body_items}
use Rattle.typed_path.specs.views.SpanViews.{span_bytes}
use Rattle.typed_path.proofs.conversions.push_each_checked.Given as goal

abbrev pub decreases-steps : goal.decreases-steps
decreases-steps g l = length (body_items l.body)

abbrev pub invariant-steps : goal.invariant-steps
invariant-steps g l = record {
  pushed : push_checked_each g.U.Encoding.dialect (Ok (drop l.start l.text.items)) (parts (body_items l.body))
      ≡ converted_checked g.T.Encoding.dialect g.U.Encoding.dialect (span_bytes l.path);
  kept : take l.start l.text.items ≡ take l.start l.fn.text.items;
  long : l.start ≤ length l.text.items;
  known : IsKnown g.U.Encoding.dialect l.known (drop l.start l.text.items);
}
