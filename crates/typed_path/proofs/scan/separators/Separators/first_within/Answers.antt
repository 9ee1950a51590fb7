use Rattle.typed_path.specs.components.{is_separator}
use Rattle.typed_path.proofs.lemmas.scan.Searches.{first-within}
use Rattle.typed_path.proofs.scan.separators.Separators.first_within.Goals as goal

pub returns-clause-first : goal.returns-clause-first
returns-clause-first c =
    first-within _ (is_separator c.args.self) c.pair.ensures c.args.text.now c.args.from c.args.to _ c.requires.ordered c.requires.in_range c.first_between.ensures
