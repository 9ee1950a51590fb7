use Rattle.std.proofs.Common.{◌≡◌, ◌≤◌, length, take, fold}
use Rattle.std.specs.Hash.DefaultHasher.{write_byte}
use Rattle.typed_path_c.specs.HasherViews.{sip_hasher_of, std_hasher_of}
use Rattle.typed_path_c.proofs.hash.SipHasherHasher.write.Given as goal

abbrev pub invariant-loop-i : goal.invariant-loop-i
invariant-loop-i l = (l.i ≤ length l.bytes) × (l.self ≡ sip_hasher_of (fold write_byte (std_hasher_of l.fn.self) (take l.i l.bytes)))
