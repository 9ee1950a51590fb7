use Rattle.typed_path.specs.views.PathViews.{path_bytes}
use Rattle.typed_path_uses.proofs.Held.{IsHeld}
use Rattle.typed_path_uses.proofs.folders.nested.Given as goal

abbrev pub ghost-joined_is_within : goal.ghost-joined_is_within
ghost-joined_is_within g a = g.T.Encoding.dialect

abbrev pub invariant-names : goal.invariant-names
invariant-names g l = IsHeld g.T.Encoding.dialect (path_bytes l.base) l.path.bytes
