use Rattle.std.proofs.Common.{sym, ◌∙◌}
use Rattle.typed_path.proofs.lemmas.queries.WideDevices.{unlike-none}
use Rattle.typed_path.proofs.scan.devices.may_be_device.Goals as goal

pub returns-else-begins_as_device : goal.returns-else-begins_as_device
returns-else-begins_as_device c = c.if-begins_as_device.false ∙ sym (unlike-none c.args.name.now (sym c.begins_as_device.ensures ∙ c.if-begins_as_device.false))
