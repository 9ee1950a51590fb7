use Rattle.std.proofs.Common.{ap, ◌∙◌}
use Rattle.typed_path.specs.components.{is_verbatim}
use Rattle.typed_path.proofs.lemmas.places.NearSteps.{bare-plain}
use Rattle.typed_path.proofs.common.relative.relative_to.Goals as goal

pub near_steps-requires : goal.near_steps-requires
near_steps-requires g c = ap is_verbatim c.bare_separators.ensures ∙ bare-plain g.T.Encoding.dialect
