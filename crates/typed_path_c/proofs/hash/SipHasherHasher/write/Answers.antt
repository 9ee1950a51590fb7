use Rattle.std.proofs.Common.{fold, get_or, arith, sym, ap, ◌∙◌, take_all}
use Rattle.std.proofs.lemmas.List.Sums.{fold_more}
use Rattle.std.specs.Hash.DefaultHasher.{write_byte, write}
use Rattle.typed_path_c.specs.HasherViews.{sip_hasher_of, std_hasher_of}
use Rattle.typed_path_c.proofs.hash.SipHasherHasher.write.Goals as goal

pub loop-i-preserved : goal.loop-i-preserved
loop-i-preserved c =
    let bs = c.args.bytes.now in
    let i = c.loop-i.i in
    (omega arith, c.write_byte.ensures ∙ ap (λ s. sip_hasher_of (write_byte (std_hasher_of s) (get_or bs i 0))) c.loop-i.invariant.1 ∙ ap sip_hasher_of (sym (fold_more write_byte (std_hasher_of c.args.self.now) bs i 0 (omega arith))))

pub returns : goal.returns
unfolding write
returns c = c.loop-i.invariant.1 ∙ ap (λ bs. sip_hasher_of (fold write_byte (std_hasher_of c.args.self.now) bs)) (take_all c.loop-i.i c.args.bytes.now (omega arith))
