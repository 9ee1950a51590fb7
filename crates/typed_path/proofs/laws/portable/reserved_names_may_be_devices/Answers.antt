use Rattle.typed_path.proofs.lemmas.queries.WideDevices.{reserved_is_wide, taken_is_wide}
use Rattle.typed_path.proofs.laws.portable.reserved_names_may_be_devices.Goals as goal

pub returns-clause-reserved : goal.returns-clause-reserved
returns-clause-reserved c = reserved_is_wide c.args.name.now

pub returns-clause-taken : goal.returns-clause-taken
returns-clause-taken c = taken_is_wide c.args.name.now
