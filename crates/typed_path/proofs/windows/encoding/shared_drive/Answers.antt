use Rattle.std.proofs.Common.{◌-◌, length, sym}
use Rattle.std.proofs.lemmas.Bool.{not-false}
use Rattle.typed_path.specs.declared.scan.separators.Separators.TheVariants.{Either}
use Rattle.typed_path.specs.changes.{HaveOnePrefix}
use Rattle.typed_path.proofs.lemmas.order.SharedNames.{parted-one, one-fits}
use Rattle.typed_path.proofs.windows.encoding.shared_drive.Goals as goal
use Rattle.typed_path.proofs.lemmas.components.Prefixes.{parted-fits}
use Rattle.typed_path.proofs.lemmas.lists.Options.{option_eq-same}

pub overflow_sub-result : goal.overflow_sub-result
overflow_sub-result c = parted-fits c.args.path.now c.in_ok-drive.drive c.in_ok-drive.body.now c.in_ok-drive.ensures

-- both have one drive
one : (c : goal.Else-ne) → HaveOnePrefix c.args.path.now c.args.other.now (length c.args.path.now - length c.in_ok-drive.body.now) Either
one c =
    parted-one c.args.path.now c.args.other.now c.in_ok-drive.drive c.in_ok-other_drive.other_drive c.in_ok-drive.body.now c.in_ok-other_drive.field-0-1.now c.in_ok-drive.ensures c.in_ok-other_drive.ensures
    (option_eq-same c.in_ok-drive.drive c.in_ok-other_drive.other_drive (not-false _ (sym c.if-ne.ensures)))

pub returns-clause-one : goal.returns-clause-one
returns-clause-one c = one c

pub returns-clause-within : goal.returns-clause-within
returns-clause-within c = one-fits c.args.path.now c.args.other.now (length c.args.path.now - length c.in_ok-drive.body.now) Either (one c)
