use Rattle.std.proofs.Common.{refl, ◌≡◌, ◌+◌, ◌++◌, length, take, ap, ◌∙◌, arith, take-take}
use Rattle.std.proofs.Math.Seq.{take-append-add}
use Rattle.typed_path.proofs.common.writing.append_first.Goals as goal

pub returns : goal.returns
returns c =
    let old = c.args.text.now.items in
    let block = take 16 c.args.source.now in
    let end : c.len.result + c.args.len ≡ length old + c.args.len = omega (arith, c.len.ensures, c.args.text.now.ok) in
    record {
      ok =
          c.truncate.ensures.items
          ∙ ap (take (c.len.result + c.args.len)) c.in_ok-extend_from_slice.ensures.items
          ∙ ap (λ n. take n (old ++ block)) end
          ∙ take-append-add old block c.args.len
          ∙ ap (λ bs. old ++ bs) (take-take c.args.len 16 c.args.source.now (omega (arith, c.if-len-gt-BLOCK.false)));
      err = tt;
      capacity = omega arith;
      succeeds = λ _. refl;
    }
