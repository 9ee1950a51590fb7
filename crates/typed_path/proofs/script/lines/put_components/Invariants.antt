use Rattle.std.proofs.Common.{◌≡◌, ◌++◌, length, drop, codes}
use Rattle.typed_path.specs.components.{parts_of, parts}
use Rattle.typed_path.specs.script.{fields_behind}
use Rattle.typed_path.specs.views.BodyViews.{body_items}
use Rattle.typed_path.specs.views.SpanViews.{span_bytes}
use Rattle.typed_path.proofs.script.lines.put_components.Given as goal

abbrev pub decreases-steps : goal.decreases-steps
decreases-steps g l = length (body_items l.body)

abbrev pub invariant-steps : goal.invariant-steps
invariant-steps g l = record {
  left : l.left ≡ drop l.body.from l.body.text.now;
  shown : l.replies.items ++ fields_behind (parts (body_items l.body))
      ≡ l.fn.replies.items ++ (codes "ok" ++ fields_behind (parts_of g.T.Encoding.dialect (span_bytes l.path)));
}
