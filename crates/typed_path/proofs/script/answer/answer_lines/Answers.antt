use Rattle.typed_path.proofs.lemmas.script.Streams.{Reads-start, Reads-runs_out, Consumes-nothing}
use Rattle.std.proofs.Common.{refl}
use Rattle.typed_path.proofs.script.answer.answer_lines.Goals as goal

pub returns-in_err-chunk-clause-memory : goal.returns-in_err-chunk-clause-memory
returns-in_err-chunk-clause-memory g c = λ _. Reads-runs_out (Reads-start _) _ _ _ (Consumes-nothing (g.R.Source.remaining c.args.reader.now)) refl
