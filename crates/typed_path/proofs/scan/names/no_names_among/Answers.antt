use Rattle.std.proofs.Common.{◌≡◌, ◌+◌, ◌<◌, ◌≤◌, ◌/◌, ◌==◌, ◌&&◌, ◌||◌, ℕ, List, Bool, true, false, nat_lt, arith, bit_and, bit_or, slice_index, ltb-true, lt-ltb}
use Rattle.std.specs.Int.{bit_at}
use Rattle.typed_path.specs.components.{dot}
use Rattle.typed_path.specs.scan.{stands_at, IsMask}
use Rattle.typed_path.specs.changes.{begins_no_name, begins_no_name_at}
use Rattle.typed_path.proofs.lemmas.scan.Searches.{mask-and, mask-or, mask-behind, of-set, of-unset}
use Rattle.typed_path.proofs.scan.names.no_names_among.Goals as goal

-- the marks of a block, as those of a longer one, in which nothing is marked behind it
longer : (p : ℕ → Bool) (n more mask : ℕ) → n ≤ more → IsMask p n mask → IsMask (λ k. nat_lt k n && p k) more mask
longer p n more mask short marks = grind arith

-- what a block tells where only its own bytes are asked
within-block : (a b c s t d u e : Bool) → ((a && s) && ((b && t) || ((b && d) && ((c && u) || (c && e))))) ≡ true → (b ≡ true) × ((s && (t || (d && (u || e)))) ≡ true)
within-block a b c s t d u e h = grind arith

module _ (text : List ℕ) (pair : ℕ × ℕ) (at ends dots : ℕ) (marked : IsMask (λ k. stands_at pair text (at + k)) 32 ends) (dotted : IsMask (λ k. slice_index text (at + k) == dot) 32 dots) where
  abbrev own : ℕ → Bool
  own k = nat_lt k 32 && stands_at pair text (at + k)

  abbrev dotting : ℕ → Bool
  dotting k = nat_lt k 32 && (slice_index text (at + k) == dot)

  abbrev told : ℕ → Bool
  told k = own k && (own (1 + k) || (dotting (1 + k) && (own (2 + k) || dotting (2 + k))))

  abbrev marks : ℕ
  marks = bit_and ends (bit_or (ends / 2) (bit_and (dots / 2) (bit_or ends dots / 4)))

  together : IsMask told 40 marks
  together =
      let e = λ (n : ℕ) (l : 32 ≤ n). longer (λ k. stands_at pair text (at + k)) 32 n ends l marked in
      let d = λ (n : ℕ) (l : 32 ≤ n). longer (λ k. slice_index text (at + k) == dot) 32 n dots l dotted in
      mask-and own (λ k. own (1 + k) || (dotting (1 + k) && (own (2 + k) || dotting (2 + k)))) 40 ends _ (e 40 (omega arith))
      (mask-or (λ k. own (1 + k)) (λ k. dotting (1 + k) && (own (2 + k) || dotting (2 + k))) 40 (ends / 2) _ (mask-behind own 1 40 ends (e 41 (omega arith)))
      (mask-and (λ k. dotting (1 + k)) (λ k. own (2 + k) || dotting (2 + k)) 40 (dots / 2) (bit_or ends dots / 4) (mask-behind dotting 1 40 dots (d 41 (omega arith)))
      (mask-behind (λ k. own k || dotting k) 2 40 (bit_or ends dots) (mask-or own dotting 42 ends dots (e 42 (omega arith)) (d 42 (omega arith))))))

  -- the bytes behind a place, as those of the block
  behind : (k : ℕ) → begins_no_name_at pair text (at + k) ≡ (stands_at pair text (at + k) && begins_no_name pair (slice_index text (at + (1 + k))) (slice_index text (at + (2 + k))))
  behind k = grind arith

  is-set : (k : ℕ) → bit_at marks k ≡ 1 → (k < 31) × (begins_no_name_at pair text (at + k) ≡ true)
  is-set k is = grind (arith, within-block, of-set, together, ltb-true, behind)

  is-clear : (k : ℕ) → k < 30 → bit_at marks k ≡ 0 → begins_no_name_at pair text (at + k) ≡ false
  is-clear k low is = grind (arith, lt-ltb, behind, of-unset, together)

pub returns-clause-set : goal.returns-clause-set
returns-clause-set c = is-set c.args.text.now c.args.pair c.args.at c.args.ends c.marks_of-dots.result c.requires.ends c.marks_of-dots.ensures

pub returns-clause-clear : goal.returns-clause-clear
returns-clause-clear c = is-clear c.args.text.now c.args.pair c.args.at c.args.ends c.marks_of-dots.result c.requires.ends c.marks_of-dots.ensures
