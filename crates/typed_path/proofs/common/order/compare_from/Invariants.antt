use Rattle.std.proofs.Common.{◌≡◌, length}
use Rattle.typed_path.specs.components.{body}
use Rattle.typed_path.specs.order.{left_cmp}
use Rattle.typed_path.specs.scan.{PartAt}
use Rattle.typed_path.proofs.common.order.compare_from.Given as goal

abbrev pub invariant-detours : goal.invariant-detours
invariant-detours l = record {
  same : left_cmp (body l.separators 0 l.fn.text) (body l.separators 0 l.fn.other) ≡ left_cmp (body l.separators 0 l.rest) (body l.separators 0 l.wanted);
  parting : PartAt l.rest l.wanted l.shared;
}

abbrev pub decreases-detours : goal.decreases-detours
decreases-detours l = length l.rest
