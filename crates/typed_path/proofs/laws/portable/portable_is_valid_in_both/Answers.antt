use Rattle.std.proofs.Common.{[]}
use Rattle.typed_path.specs.components.{kinds, parts_of}
use Rattle.typed_path.proofs.lemmas.queries.PortablePaths.{portable_is_valid, portable_is_no_device, portable_is_unrefused}
use Rattle.typed_path.proofs.laws.portable.portable_is_valid_in_both.Goals as goal

pub returns-clause-valid : goal.returns-clause-valid
returns-clause-valid g c h e = portable_is_valid e (kinds (parts_of g.d c.args.path.now)) h

pub returns-clause-no_device : goal.returns-clause-no_device
returns-clause-no_device g c h = portable_is_no_device (kinds (parts_of g.d c.args.path.now)) h

pub returns-clause-accepted : goal.returns-clause-accepted
returns-clause-accepted g c h rootless low e = portable_is_unrefused e [] (kinds (parts_of g.d c.args.path.now)) h rootless low

pub returns-clause-fault : goal.returns-clause-fault
returns-clause-fault g c h rootless low = portable_is_unrefused g.d [] (kinds (parts_of g.d c.args.path.now)) h rootless low
