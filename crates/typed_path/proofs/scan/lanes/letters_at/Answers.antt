use Rattle.std.proofs.Common.{arith, ◌%◌, eqb, get_or, ap₂, ◌∙◌, bit_and}
use Rattle.std.proofs.lemmas.Simd.{length-chunk, zip2_splat}
use Rattle.typed_path.specs.changes.{is_letter_of}
use Rattle.typed_path.proofs.lemmas.scan.Searches.{lane, mask-lanes}
use Rattle.typed_path.proofs.lemmas.scan.Tables.{lanes-made}
use Rattle.typed_path.proofs.scan.lanes.letters_at.Goals as goal
use lib.Lanes.{chunk, zip2}

pub returns : goal.returns
returns c =
    let text = c.args.text.now in
    let at = c.args.at in
    let table = c.args.table in
    let fits = c.requires.in_range in
    let xs = chunk at 32 text in
    mask-lanes (is_letter_of table) at 32 text fits (omega arith)
    (ap₂ (zip2 (λ a b. lane (eqb a b))) c.at_low_bits.ensures (zip2_splat bit_and xs 32 223 (length-chunk at 32 text fits)) ∙ lanes-made (λ x. get_or table (x % 16) 0) (λ x. bit_and x 223) xs)
