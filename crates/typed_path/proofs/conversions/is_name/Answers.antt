use Rattle.std.proofs.Common.{sym, ◌∙◌}
use Rattle.typed_path.proofs.lemmas.components.WindowsNames.{fault_name}
use Rattle.typed_path.proofs.conversions.is_name.Goals as goal

pub returns-then-not-is_dots : goal.returns-then-not-is_dots
returns-then-not-is_dots g c = λ told. fault_name g.U.Encoding.dialect c.args.text.now (sym c.is_dots.ensures ∙ c.if-not-is_dots.true) (sym c.valid.ensures ∙ told)
