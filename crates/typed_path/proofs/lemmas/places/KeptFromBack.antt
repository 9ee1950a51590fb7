-- The names that are kept of a list, one component less at its end; and whether they begin with others, one name less at the ends.
use Rattle.std.proofs.Common.{◌≡◌, ℕ, zero, suc, ◌+◌, ◌-◌, ◌<◌, ◌^◌, Bool, true, false, ◌&&◌, List, [], ◌∷◌, ◌++◌, length, refl, sym, ap, ◌∙◌, append_assoc, append-nil, arith, add-one, subst, length-append}
use Rattle.std.specs.Prelude.{Some, None}
use Rattle.std.specs.List.{starts_with}
use Rattle.std.specs.Str.{bytes_eq}
use Rattle.std.proofs.lemmas.List.{take_all}
use Rattle.std.proofs.lemmas.Option.{same_Some}
use Rattle.std.proofs.Math.Bool.{and-true}
use Rattle.typed_path.specs.components.{Dialect, Kind, parent, normal, Part, Placed, parts, kinds, comps}
use Rattle.typed_path.specs.places.{unmet, kept_names, parents, names_under, unmet_under}
use Rattle.typed_path.specs.queries.{behind_prefix}
use Rattle.typed_path.specs.scan.{but_last, last_part}
use Rattle.typed_path.specs.declared.scan.step.StepKind.{StepKind}
use Rattle.typed_path.specs.declared.scan.step.StepKind.TheVariants.{ParentDir, Normal}
use Rattle.typed_path.specs.views.PieceViews.{step_view}
use Rattle.typed_path.proofs.lemmas.components.Cuts.{comps-count}
use Rattle.typed_path.proofs.lemmas.places.KeptNames.{AlikeKept, unmet-append, kept_names-append}
use Rattle.typed_path.proofs.lemmas.order.Comparisons.{kinds-push}
use Rattle.typed_path.proofs.lemmas.scan.Steps.{last_pushed, last_part-push, empty-last}

-- Lists that are seen alike by each list before them.

pub alike-cons : (k : Kind) (ks ls : List Kind) → AlikeKept ks ls → AlikeKept (k ∷ ks) (k ∷ ls)
alike-cons k ks ls h = grind arith

pub alike-append : (js ks ls : List Kind) → AlikeKept ks ls → AlikeKept (js ++ ks) (js ++ ls)
alike-append [] ks ls h = h
alike-append (j ∷ js) ks ls h = alike-cons j (js ++ ks) (js ++ ls) (alike-append js ks ls h)

-- a parent that a name before it meets
pub met-alike : (name : List ℕ) (ks : List Kind) → AlikeKept (normal name ∷ parent ∷ ks) ks
met-alike name ks = grind arith

-- a name at the end of a list stays
unmet-push : (ks : List Kind) (name : List ℕ) → unmet (ks ++ normal name ∷ []) ≡ unmet ks
unmet-push ks name = omega (arith, unmet-append ks (normal name ∷ []))

pub kept_names-push : (ks : List Kind) (name : List ℕ) → kept_names (ks ++ normal name ∷ []) ≡ kept_names ks ++ name ∷ []
kept_names-push ks name = kept_names-append ks (normal name ∷ []) ∙ ap (λ names. names ++ name ∷ []) (take_all (length (kept_names ks) - 0) (kept_names ks) (omega arith))

-- what one step from the back takes
pub taken-last : (cs : List Placed) (p : Part) → Some p ≡ last_part cs → (kinds (parts cs) ≡ kinds (parts (but_last cs)) ++ p.kind ∷ []) × (length cs ≡ length (but_last cs) + 1)
taken-last [] p taken = cc
taken-last (c ∷ cs) p taken =
    let d = last_pushed c cs in
    let same = same_Some _ _ (taken ∙ ap last_part d.1 ∙ last_part-push (but_last (c ∷ cs)) d.0) in (
      ap (λ xs. kinds (parts xs)) d.1 ∙ kinds-push (but_last (c ∷ cs)) d.0 ∙ ap (λ q. kinds (parts (but_last (c ∷ cs))) ++ q.kind ∷ []) (sym same),
      ap length d.1 ∙ length-append (but_last (c ∷ cs)) (d.0 ∷ []),
    )

-- a list with its last component, and so many parents behind it
shifted : (cs : List Placed) (p : Part) (n : ℕ) → Some p ≡ last_part cs → kinds (parts cs) ++ parents n ≡ kinds (parts (but_last cs)) ++ (p.kind ∷ parents n)
shifted cs p n taken = ap (λ ks. ks ++ parents n) (taken-last cs p taken).0 ∙ append_assoc (kinds (parts (but_last cs))) (p.kind ∷ []) (parents n)

abbrev pub step_of : StepKind → List ℕ → Part
step_of kind text = record { kind = step_view kind text; text = text }

-- the same in one record: so many parents behind what is left see the list alike
pub record Goes (n m : ℕ) (cs ds : List Placed) : Type 0 where
  pub unmet : unmet_under n cs ≡ unmet_under m ds
  pub names : names_under n cs ≡ names_under m ds

module _ (cs ds : List Placed) (kind : StepKind) (text : List ℕ) (taken : Some (step_of kind text) ≡ last_part cs) (left : ds ≡ but_last cs) where
  goes : (n m : ℕ) → AlikeKept (step_view kind text ∷ parents n) (parents m) → Goes n m cs ds
  goes n m h =
      let more = alike-append (kinds (parts (but_last cs))) (step_view kind text ∷ parents n) (parents m) h in
      subst (Goes n m cs) (sym left) (record {
        unmet = ap unmet (shifted cs (step_of kind text) n taken) ∙ more.unmet;
        names = ap kept_names (shifted cs (step_of kind text) n taken) ∙ more.names;
      })

  -- a parent
  pub goes-parent : (n : ℕ) → kind ≡ ParentDir → Goes n (n + 1) cs ds
  goes-parent n is = rw (add-one n) (goes n (suc n) (rw is (record { unmet = refl; names = refl })))

  -- a name that a parent takes away
  pub goes-met : (n : ℕ) → (n ≡ 0 → ⊥) → kind ≡ Normal → Goes n (n - 1) cs ds
  goes-met zero some is = absurd (some refl)
  goes-met (suc n) some is =
      let back : suc n - 1 ≡ n = omega arith in
      subst (λ m. Goes (suc n) m cs ds) (sym back) (goes (suc n) n (rw is (met-alike text (parents n))))

  -- any other component
  pub goes-passed : (n : ℕ) → (kind ≡ ParentDir → ⊥) → (kind ≡ Normal → ⊥) → Goes n n cs ds
  goes-passed n no_parent unnamed = goes n n (by kind no_parent unnamed)
    where
      by : (k : StepKind) → (k ≡ ParentDir → ⊥) → (k ≡ Normal → ⊥) → AlikeKept (step_view k text ∷ parents n) (parents n)
      by k e f = grind arith

  -- a name that stays
  pub stays-name : (n : ℕ) → n ≡ 0 → kind ≡ Normal → names_under n cs ≡ names_under n ds ++ text ∷ []
  stays-name n none is =
      let ks = kinds (parts (but_last cs)) in
      rw (none, left)
      (ap kept_names (shifted cs (step_of kind text) 0 taken ∙ ap (λ k. ks ++ step_view k text ∷ []) is) ∙ kept_names-push ks text
      ∙ ap (λ ls. kept_names ls ++ text ∷ []) (sym (append-nil ks)))

  pub stays-unmet : (n : ℕ) → n ≡ 0 → kind ≡ Normal → unmet_under n cs ≡ unmet_under n ds
  stays-unmet n none is =
      let ks = kinds (parts (but_last cs)) in
      rw (none, left)
      (ap unmet (shifted cs (step_of kind text) 0 taken ∙ ap (λ k. ks ++ step_view k text ∷ []) is) ∙ unmet-push ks text
      ∙ ap unmet (sym (append-nil ks)))

-- parents alone have no names
names-parents : (n : ℕ) → kept_names (parents n) ≡ []
names-parents zero = refl
names-parents (suc n) = names-parents n

pub unmet-parents : (n : ℕ) → unmet (parents n) ≡ n
unmet-parents zero = refl
unmet-parents (suc n) = ap suc (unmet-parents n)

-- nothing is left
pub none-names : (cs : List Placed) (n : ℕ) → None ≡ last_part cs → names_under n cs ≡ []
none-names cs n none = rw (empty-last cs none) (names-parents n)

-- behind which no parents stand
pub names-alone : (cs : List Placed) → names_under 0 cs ≡ kept_names (kinds (parts cs))
names-alone cs = ap kept_names (append-nil (kinds (parts cs)))

-- The same behind the prefix of a path.

-- a list begins with a prefix or with none
behind-kinds : (cs ds : List Placed) → ds ≡ behind_prefix cs → AlikeKept (kinds (parts ds)) (kinds (parts cs))
behind-kinds cs ds behind = grind arith

pub unmet_behind_prefix : (cs ds : List Placed) → ds ≡ behind_prefix cs → unmet (kinds (parts ds)) ≡ unmet (kinds (parts cs))
unmet_behind_prefix cs ds behind = (behind-kinds cs ds behind).unmet

pub kept_behind_prefix : (cs ds : List Placed) → ds ≡ behind_prefix cs → kept_names (kinds (parts ds)) ≡ kept_names (kinds (parts cs))
kept_behind_prefix cs ds behind = (behind-kinds cs ds behind).names

-- a path has fewer components than there are numbers
pub few : (d : Dialect) (t : List ℕ) (cs : List Placed) → cs ≡ comps d t → length t < 2 ^ 64 → length cs < 2 ^ 64
few d t cs read less = omega (arith, ap length read, comps-count d t, less)

pub few_behind_prefix : (cs ds : List Placed) → ds ≡ behind_prefix cs → length cs < 2 ^ 64 → length ds < 2 ^ 64
few_behind_prefix cs ds behind less = grind arith

-- Names that begin with others, one name more at the ends.

-- lists of one length, each with one more
both-longer : (xs ys : List (List ℕ)) (a b : List ℕ) → length xs ≡ length ys → starts_with bytes_eq (xs ++ a ∷ []) (ys ++ b ∷ []) ≡ starts_with bytes_eq xs ys && bytes_eq b a
both-longer [] [] a b size = and-true (bytes_eq b a)
both-longer (x ∷ xs) [] a b size = absurd (omega (arith, size))
both-longer [] (y ∷ ys) a b size = absurd (omega (arith, size))
both-longer (x ∷ xs) (y ∷ ys) a b size = ap (λ t. bytes_eq y x && t) (both-longer xs ys a b (omega (arith, size))) ∙ by (bytes_eq y x)
  where
    by : (t : Bool) → t && (starts_with bytes_eq xs ys && bytes_eq b a) ≡ (t && starts_with bytes_eq xs ys) && bytes_eq b a
    by t = grind arith

-- what is left once both ends were taken, as the answer whether these are the same tells
pub record EndsTaken (xs ys more_xs more_ys : List (List ℕ)) (same : Bool) : Type 0 where
  pub size : length xs ≡ length ys
  pub alike : same ≡ true → starts_with bytes_eq more_xs more_ys ≡ starts_with bytes_eq xs ys
  pub unlike : same ≡ false → starts_with bytes_eq more_xs more_ys ≡ false

pub ends-taken : (xs ys more_xs more_ys : List (List ℕ)) (a b : List ℕ) (same : Bool) → more_xs ≡ xs ++ a ∷ [] → more_ys ≡ ys ++ b ∷ [] → length more_xs ≡ length more_ys → same ≡ bytes_eq b a
    → EndsTaken xs ys more_xs more_ys same
ends-taken xs ys more_xs more_ys a b same e f size told = grind (arith, length-append, both-longer)
