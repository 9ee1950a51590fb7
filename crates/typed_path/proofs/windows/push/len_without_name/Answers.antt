use Rattle.std.proofs.Common.{◌≡◌, ◌≤◌, ◌<◌, Bool, false, List, length, take, drop, slice_range, refl, sym, ap, subst, ◌∙◌, take_all, arith, ℕ, if◌then◌else◌}
use Rattle.std.specs.List.{IsAfterLastMatch}
use Rattle.typed_path.specs.declared.scan.separators.Separators.TheVariants.{Backslash}
use Rattle.typed_path.specs.components.{is_separator, Part}
use Rattle.typed_path.specs.changes.{without_last_name, Stands}
use Rattle.typed_path.proofs.lemmas.lists.Lists.{IsLastPlace, whole_range}
use Rattle.typed_path.proofs.lemmas.changes.WindowsPushes.{is_dots, stands-short, stands-dots, stands-cut, stands-alone}
use Rattle.typed_path.proofs.windows.push.len_without_name.Goals as goal

-- the whole text, where no name is taken off
whole : (parted : Bool) (ps : List Part) (text : List ℕ) → Stands parted ps text → without_last_name ps ≡ ps → Stands parted (without_last_name ps) (take (length text) text)
whole parted ps text stands same = subst (Stands parted (without_last_name ps)) (sym (take_all (length text) text (omega arith))) (subst (λ qs. Stands parted qs text) (sym same) stands)

-- what stands behind the first byte, and the place of its last component
module _ (text : List ℕ) (last : ℕ) where
  abbrev names : List ℕ
  names = slice_range text 1 (length text)

  names_are : names ≡ drop 1 text
  names_are = whole_range text text 1 refl

  place : last ≤ length names → IsAfterLastMatch (is_separator Backslash) names last → IsLastPlace (is_separator Backslash) (drop 1 text) last
  place within is = subst (λ u. IsLastPlace (is_separator Backslash) u last) names_are (record { within = within; last = is })

  dots : (x y : Bool) → x ≡ is_dots (slice_range names last (length names)) → x ≡ y → is_dots (drop last (drop 1 text)) ≡ y
  dots x y e f = ap is_dots (sym (whole_range (drop 1 text) names last names_are)) ∙ sym e ∙ f

pub returns-then-text-le1-clause-left : goal.returns-then-text-le1-clause-left
returns-then-text-le1-clause-left c = λ ps stands. whole c.args.parted ps c.args.text.now stands (stands-short c.args.parted ps c.args.text.now stands c.if-text-le1.true)

pub returns-then-is_dots-clause-left : goal.returns-then-is_dots-clause-left
returns-then-is_dots-clause-left c = λ ps stands.
    let text = c.args.text.now in
    let last = c.last_in-last.result in
    whole c.args.parted ps text stands
    (stands-dots c.args.parted ps text stands c.if-text-le1.false last (place text last c.last_in-last.ensures.within c.last_in-last.ensures.last) (dots text last _ _ c.is_dots.ensures c.if-is_dots.true))

pub returns-then-last-ne0-clause-left : goal.returns-then-last-ne0-clause-left
returns-then-last-ne0-clause-left c = λ ps stands.
    let text = c.args.text.now in
    let last = c.last_in-last.result in
    stands-cut c.args.parted ps text stands c.if-text-le1.false last (place text last c.last_in-last.ensures.within c.last_in-last.ensures.last) (dots text last _ _ c.is_dots.ensures c.if-is_dots.false)
    (omega (arith, c.if-last-ne0.true))

-- no name is left
module _ (text : List ℕ) (parted : Bool) (ps : List Part) (stands : Stands parted ps text) (long : 1 < length text) (last : ℕ) (within : last ≤ length (names text last))
    (is : IsAfterLastMatch (is_separator Backslash) (names text last) last) (dotless : is_dots (drop last (drop 1 text)) ≡ false) (none : last ≡ 0) where
  alone : (n : ℕ) → (if parted then 0 else 1) ≡ n → Stands parted (without_last_name ps) (take n text)
  alone n e = subst (λ m. Stands parted (without_last_name ps) (take m text)) e (stands-alone parted ps text stands long last (place text last within is) dotless none)

pub returns-then-parted-clause-left : goal.returns-then-parted-clause-left
returns-then-parted-clause-left c = λ ps stands.
    let text = c.args.text.now in
    let last = c.last_in-last.result in
    alone text c.args.parted ps stands c.if-text-le1.false last c.last_in-last.ensures.within c.last_in-last.ensures.last (dots text last _ _ c.is_dots.ensures c.if-is_dots.false)
    (omega (arith, c.if-last-ne0.false)) 0 (ap (λ b. if b then 0 else 1) c.if-parted.true)

pub returns-clause-left : goal.returns-clause-left
returns-clause-left c = λ ps stands.
    let text = c.args.text.now in
    let last = c.last_in-last.result in
    alone text c.args.parted ps stands c.if-text-le1.false last c.last_in-last.ensures.within c.last_in-last.ensures.last (dots text last _ _ c.is_dots.ensures c.if-is_dots.false)
    (omega (arith, c.if-last-ne0.false)) 1 (ap (λ b. if b then 0 else 1) c.if-parted.false)
