use Rattle.std.proofs.Common.{◌≡◌, ℕ, ◌%◌, ◌||◌, List, Bool, map, get_or, ap, ◌∙◌, arith, eqb}
use Rattle.typed_path.specs.changes.{is_forbidden_or}
use Rattle.typed_path.specs.scan.{is_one_of}
use Rattle.typed_path.specs.declared.scan.lanes.TheConstants.{FORBIDDEN, ALSO_FORBIDDEN}
use Rattle.typed_path.proofs.lemmas.scan.Searches.{lane, lanes-or, lanes-of, mask-lanes}
use Rattle.typed_path.proofs.lemmas.scan.Tables.{lanes-held, forbidden-held}
use Rattle.typed_path.proofs.scan.lanes.forbidden_in_32_at.Goals as goal
use lib.Lanes.{chunk, zip2}

pub returns : goal.returns
returns c =
    let text = c.args.text.now in
    let at = c.args.at in
    let pair = c.args.pair in
    let fits = c.requires in
    let xs = chunk at 32 text in
    let held = λ (table : List ℕ) (found : List ℕ) (e : found ≡ map (λ b. get_or table (b % 16) 0) xs).
    ap (λ l. zip2 (λ a b. lane (eqb a b)) l xs) e ∙ lanes-held (λ b. get_or table (b % 16) 0) xs in
    mask-lanes (is_forbidden_or pair) at 32 text fits (omega arith)
    (lanes-or _ _ xs
    (lanes-or _ _ xs (held FORBIDDEN c.at_low_bits.result c.at_low_bits.ensures) (held ALSO_FORBIDDEN c.at_low_bits-2.result c.at_low_bits-2.ensures))
    (lanes-or _ _ xs (lanes-of pair.0 at 32 text fits) (lanes-of pair.1 at 32 text fits))
    ∙ ap (λ (p : ℕ → Bool). map (λ x. lane (p x || is_one_of pair x)) xs) (λ i b. forbidden-held b i))
