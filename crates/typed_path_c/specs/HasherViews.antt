-- A state of SipHash 1-3, as that of std's hasher and back.
use Rattle.std.specs.declared.hash.DefaultHasher.{DefaultHasher}
use Rattle.typed_path_c.specs.declared.hash.SipHasher.{SipHasher}

abbrev pub std_hasher_of : SipHasher → DefaultHasher
std_hasher_of s = record { v0 = s.v0; v1 = s.v1; v2 = s.v2; v3 = s.v3; tail = s.tail; length = s.length }

abbrev pub sip_hasher_of : DefaultHasher → SipHasher
sip_hasher_of s = record { v0 = s.v0; v1 = s.v1; v2 = s.v2; v3 = s.v3; tail = s.tail; length = s.length }
