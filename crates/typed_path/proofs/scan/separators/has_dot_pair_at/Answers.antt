use Rattle.std.proofs.Common.{eqb-true}
use Rattle.std.proofs.lemmas.Bool.{not-false}
use Rattle.typed_path.proofs.lemmas.changes.MayBegins.{block-unpaired}
use Rattle.typed_path.proofs.scan.separators.has_dot_pair_at.Goals as goal

pub returns : goal.returns
returns c = λ told k low high. block-unpaired c.args.text.now c.args.at c.marks_at-dots.result c.marks_at-dots.ensures (eqb-true _ _ (not-false _ told)) k low high
