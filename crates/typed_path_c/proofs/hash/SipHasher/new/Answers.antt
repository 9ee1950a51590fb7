use Rattle.std.proofs.Common.{refl}
use Rattle.std.specs.Hash.DefaultHasher.{with_keys}
use Rattle.typed_path_c.proofs.hash.SipHasher.new.Goals as goal

pub returns : goal.returns
unfolding with_keys
returns c = refl
