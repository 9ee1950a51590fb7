use Rattle.std.proofs.Common.{◌≡◌, ℕ, ◌%◌, ◌<◌, List, length, map, refl, sym, arith, w8, subst}
use Rattle.std.proofs.lemmas.List.{get_or-map, length-map}
use Rattle.std.proofs.lemmas.Simd.{SwzOk, SwzOk-from_below, Each1-from_get_or}
use Rattle.typed_path.proofs.lemmas.scan.Tables.{low-bits, looked-up}
use Rattle.typed_path.proofs.scan.lanes.at_low_bits.Goals as goal

-- each place is one of a table of sixteen
within : (xs : List ℕ) → length xs ≡ 32 → SwzOk w8 16 32 0 (map (λ x. x % 16) xs)
within xs long =
    let js = map (λ x. x % 16) xs in
    let same : length js ≡ length xs = length-map xs (λ x. x % 16) in
    SwzOk-from_below w8 16 2 32 0 js refl (omega arith) (Each1-from_get_or (λ j. j < 16) js 0 (λ i l. omega (arith, get_or-map (λ x. x % 16) xs i 0 0 (omega arith))))

pub swizzle : goal.swizzle
swizzle c = subst (SwzOk w8 16 32 0) (sym (low-bits 32 4 c.args.block c.fits-block.0)) (within c.args.block c.fits-block.0)

pub returns : goal.returns
returns c = looked-up c.args.table c.args.block _ c.requires.twice c.fits-block.0 (low-bits 32 4 c.args.block c.fits-block.0)
