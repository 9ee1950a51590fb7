use Rattle.std.proofs.Common.{ap, ◌∙◌, refl, arith}
use Rattle.typed_path.specs.declared.scan.cursor.Begin.TheVariants.{Inside}
use Rattle.typed_path.specs.scan.{is_clean}
use Rattle.typed_path.proofs.lemmas.lists.Lists.{slice_range-later}
use Rattle.typed_path.proofs.scan.cursor.Body.further.Goals as goal

pub invariant_of-result-clause-starts_clean : goal.invariant_of-result-clause-starts_clean
invariant_of-result-clause-starts_clean c =
    let v = c.args.self in
    ap (is_clean Inside v.separators) (slice_range-later v.text.now _ v.from c.args.count v.to v.ordered v.in_range refl c.requires.within) ∙ c.requires.clean

pub returns : goal.returns
returns c = grind (arith, slice_range-later)
