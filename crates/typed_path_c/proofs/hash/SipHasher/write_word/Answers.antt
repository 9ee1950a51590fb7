use Rattle.std.specs.Hash.DefaultHasher.{write_word}
use Rattle.typed_path_c.proofs.hash.SipHasher.write_word.Goals as goal

pub returns : goal.returns
unfolding write_word
returns c = simp c.round.ensures
