use Rattle.std.proofs.Common.{◌+◌, get_or, ltb, sym, subst, w8}
use Rattle.std.proofs.lemmas.Simd.{bitmask_splat, length-chunk}
use Rattle.typed_path.specs.scan.{IsMask}
use Rattle.typed_path.proofs.lemmas.scan.Searches.{mask-chunk}
use Rattle.typed_path.proofs.scan.lanes.marks_below.Goals as goal
use lib.Lanes.{chunk}

pub returns : goal.returns
returns g c =
    let text = c.args.text.now in
    let at = c.args.at in
    let byte = c.args.byte in
    let n = g.row.N in
    subst (IsMask (λ k. ltb (get_or text (at + k) 0) byte) n)
    (sym (bitmask_splat w8 ltb (chunk at n text) n byte (length-chunk at n text c.requires.in_range) c.requires.lanes.1))
    (mask-chunk (λ b. ltb b byte) at n text c.requires.in_range)
