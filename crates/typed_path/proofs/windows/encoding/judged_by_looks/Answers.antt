use Rattle.std.proofs.Common.{Some, ◌≡◌, ◌+◌, ◌++◌, ℕ, List, [], ◌∷◌, Bool, true, false, not, zero, suc, if◌then◌else◌, take, drop, refl, sym, ap, subst, ◌∙◌, arith, ◌⊎◌, inl, inr, take-append-drop, drop-drop}
use Rattle.std.specs.List.{position_or_len}
use Rattle.typed_path.specs.declared.scan.separators.Separators.TheVariants.{Either}
use Rattle.typed_path.specs.declared.errors.CheckedPathError.TheVariants.{InvalidFilename}
use Rattle.typed_path.specs.components.{windows, is_separator}
use Rattle.typed_path.specs.changes.{begins_with_separator, has_second_colon, fault}
use Rattle.typed_path.proofs.lemmas.changes.ValidPaths.{looked-valid, looked-refused, front-refused, unpaired-dots}
use Rattle.typed_path.proofs.windows.encoding.judged_by_looks.Goals as goal

-- the first bytes of a path begin no otherwise
front-relative : (path : List ℕ) (n : ℕ) → begins_with_separator path ≡ false → begins_with_separator (take n path) ≡ false
front-relative path n e = grind arith

front-undriven : (path : List ℕ) (n : ℕ) → has_second_colon path ≡ false → has_second_colon (take n path) ≡ false
front-undriven [] zero e = refl
front-undriven [] (suc n) e = refl
front-undriven (a ∷ path) zero e = refl
front-undriven (a ∷ []) (suc zero) e = refl
front-undriven (a ∷ []) (suc (suc n)) e = refl
front-undriven (a ∷ b ∷ path) (suc zero) e = refl
front-undriven (a ∷ b ∷ path) (suc (suc n)) e = e

-- what stands from the first separator on begins with it, or is empty
ended : (t : List ℕ) → (drop (position_or_len (is_separator Either) t) t ≡ []) ⊎ (begins_with_separator (drop (position_or_len (is_separator Either) t) t) ≡ true)
ended [] = inl refl
ended (b ∷ t) = by (is_separator Either b) refl (ended t)
  where
    by : (separates : Bool) → is_separator Either b ≡ separates → (drop (position_or_len (is_separator Either) t) t ≡ []) ⊎ (begins_with_separator (drop (position_or_len (is_separator Either) t) t) ≡ true)
        → (drop (position_or_len (is_separator Either) (b ∷ t)) (b ∷ t) ≡ []) ⊎ (begins_with_separator (drop (position_or_len (is_separator Either) (b ∷ t)) (b ∷ t)) ≡ true)
    by true e rest = inr (ap (λ c. begins_with_separator (drop (if not c then 1 + position_or_len (is_separator Either) t else 0) (b ∷ t))) e ∙ e)
    by false e rest =
        let here : drop (position_or_len (is_separator Either) (b ∷ t)) (b ∷ t) ≡ drop (position_or_len (is_separator Either) t) t = ap (λ c. drop (if not c then 1 + position_or_len (is_separator Either) t else 0) (b ∷ t)) e ∙ next (position_or_len (is_separator Either) t) in
        subst (λ r. (r ≡ []) ⊎ (begins_with_separator r ≡ true)) (sym here) rest
      where
        next : (n : ℕ) → drop (1 + n) (b ∷ t) ≡ drop n t
        next n = let more : 1 + n ≡ suc n = omega arith in ap (λ m. drop m (b ∷ t)) more

pub returns-in-Clean : goal.returns-in-Clean
returns-in-Clean c = grind (arith, looked-valid)

pub returns-in-Offence : goal.returns-in-Offence
returns-in-Offence c = grind (arith, looked-refused)

pub returns-then-has_no_nul_or_dot_pair : goal.returns-then-has_no_nul_or_dot_pair
returns-then-has_no_nul_or_dot_pair c = grind (arith, looked-refused, unpaired-dots)

pub returns-in-Offence-look_at_path : goal.returns-in-Offence-look_at_path
returns-in-Offence-look_at_path c =
    let path = c.args.path.now in
    let looked = c.in-Offence.looked in
    let end = looked + c.first_in.result in
    let whole : take end path ++ drop end path ≡ path = take-append-drop end path in
    let apart = sym c.begins_with_separator.ensures ∙ c.if-begins_with_separator.false in
    let free = sym c.has_second_colon.ensures ∙ c.if-has_second_colon.false in
    let behind : drop c.first_in.result c.split_at.result.1.now ≡ drop end path = ap (drop c.first_in.result) c.split_at.ensures.back ∙ drop-drop c.first_in.result looked path in
    let border : (drop end path ≡ []) ⊎ (begins_with_separator (drop end path) ≡ true) =
    subst (λ r. (r ≡ []) ⊎ (begins_with_separator r ≡ true)) (ap (λ n. drop n c.split_at.result.1.now) (sym c.first_in.ensures.first) ∙ behind) (ended c.split_at.result.1.now) in
    let told : fault windows (take end path) ≡ Some InvalidFilename =
    looked-refused (take end path) (front-relative path end apart) (front-undriven path end free) (unpaired-dots (take end path) (sym c.has_no_nul_or_dot_pair-in-Offence-2.ensures ∙ c.if-has_no_nul_or_dot_pair-2.true))
    (c.look_at_path-then-has_no_nul_or_dot_pair-2.ensures.offence c.in-Offence-look_at_path.field-0 c.in-Offence-look_at_path.is).1 in
    sym (ap (fault windows) (sym whole)
    ∙ front-refused (take end path) (drop end path) InvalidFilename border (ap begins_with_separator whole ∙ apart) (ap has_second_colon whole ∙ free) told)
