use Rattle.typed_path.specs.components.{is_separator}
use Rattle.typed_path.proofs.lemmas.scan.Searches.{first-of}
use Rattle.typed_path.proofs.scan.separators.Separators.first_in.Goals as goal

pub returns-clause-first : goal.returns-clause-first
returns-clause-first c = first-of _ (is_separator c.args.self) c.pair.ensures c.args.bytes.now _ c.first_between.ensures
