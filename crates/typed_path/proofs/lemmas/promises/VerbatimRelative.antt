-- On Windows the path that leads from a base to another leads back behind each base that keeps its prefix, and if that is verbatim ends with enough names.
use Rattle.std.proofs.Common.{◌≡◌, ℕ, suc, if◌then◌else◌, eq-eqb, ◌-◌, ◌≤◌, Bool, true, false, not, ◌||◌, List, [], ◌∷◌, ◌++◌, map, length, take, drop, refl, sym, ap, ap₂, ◌∙◌, append_assoc, arith, Option, Some, None}
use Rattle.std.proofs.lemmas.List.{length-map}
use Rattle.typed_path.specs.components.{windows, separators, Prefix, prefix, normal, kinds, Found, prefix_of}
use Rattle.typed_path.specs.queries.{begins_with_root, first_prefix, has_any_verbatim_prefix, is_verbatim_prefix}
use Rattle.typed_path.specs.changes.{push}
use Rattle.typed_path.specs.places.{clean_text, headed, is_anchored, kept_names, names_down, relative_text, rising, route, steps_up}
use Rattle.typed_path.specs.promises.{LeadsBackBehindClean, LeadsBackOnWindows, names_at_end}
use Rattle.typed_path.proofs.lemmas.components.FirmPrefixes.{is_firm}
use Rattle.typed_path.proofs.lemmas.places.KeptNames.{place-kept, names-same}
use Rattle.typed_path.proofs.lemmas.promises.StepsBack.{names-met, reached-told, same-route, read-relative, stays_relative}
use Rattle.typed_path.proofs.lemmas.promises.CleanRead.{anchored-stays, lead, names-ups, unmet-ups}
use Rattle.typed_path.proofs.lemmas.promises.WindowsClean.{clean-behind}
use Rattle.typed_path.proofs.lemmas.promises.VerbatimWithin.{end, front-names, left_behind, relative-place}
use Rattle.typed_path.proofs.lemmas.promises.WindowsBases.{verbatim-no_drive}
use Rattle.typed_path.proofs.lemmas.components.PrefixCuts.{verbatim-some, verbatim-none}
use Rattle.typed_path.proofs.lemmas.promises.WindowsRelative.{leads_plain, relative-alike}
use Rattle.typed_path.proofs.lemmas.promises.WindowsWithin.{body_kinds, kinds-found, under}
use Rattle.typed_path.proofs.lemmas.promises.Within.{kinds_of}
use Rattle.typed_path.proofs.lemmas.lists.Lists.{take-behind}
use Rattle.typed_path.proofs.lemmas.promises.WindowsContained.{firm-kept}

-- A place behind a prefix and a root tells what a list begins with and which names are kept.

record IsUnder (o : Option Prefix) (a : Bool) (ns : List (List ℕ)) (p : Prefix) (below : List (List ℕ)) : Type 0 where
  prefix : o ≡ Some p
  anchored : a ≡ true
  names : ns ≡ below

under-told : (o : Option Prefix) (a : Bool) (ns : List (List ℕ)) (p : Prefix) (names : List (List ℕ)) → headed o a ++ map normal ns ≡ under p names → IsUnder o a ns p names
under-told None true ns p names e = grind arith
under-told None false [] p names e = grind arith
under-told None false (n ∷ ns) p names e = grind arith
under-told (Some q) false [] p names e = grind arith
under-told (Some q) false (n ∷ ns) p names e = grind arith
under-told (Some q) true ns p names e = grind (arith, names-same)

-- names alone stand at the end of themselves
names-end : (names : List (List ℕ)) → names_at_end (map normal names) ≡ length names
names-end [] = refl
names-end (name ∷ names) =
    let size = length-map names normal in
    ap (λ b. if b then suc (length (map normal names)) else names_at_end (map normal names)) (eq-eqb _ _ (names-end names ∙ sym size)) ∙ ap suc size

lead-end : (rooted : Bool) (names : List (List ℕ)) → names_at_end (lead rooted 0 names) ≡ length names
lead-end true names = names-end names
lead-end false names = names-end names

-- a verbatim directory whose prefix is firm
module _ (dir : List ℕ) (f : Found) (is : prefix_of windows dir ≡ Some f) (firm : is_firm f.prefix ≡ true) (kind : is_verbatim_prefix f.prefix ≡ true) where
  abbrev front : List (List ℕ)
  front = kept_names (kinds (end dir f is firm kind).front)

  abbrev last : List (List ℕ)
  last = (end dir f is firm kind).names

  own-names : kept_names (kinds_of windows dir) ≡ front ++ last
  own-names = ap kept_names (kinds-found dir f is) ∙ ap (λ ps. kept_names (kinds ps)) (end dir f is firm kind).is ∙ front-names dir f is firm kind last

  own-anchored : is_anchored (kinds_of windows dir) ≡ true
  own-anchored = ap is_anchored (kinds-found dir f is) ∙ ap (λ b. not b || begins_with_root (body_kinds (separators windows dir) (drop f.length dir))) (verbatim-no_drive f.prefix kind)

  own-count : names_at_end (kinds_of windows dir) ≡ length last
  own-count = ap names_at_end (kinds-found dir f is) ∙ (end dir f is firm kind).count

  -- where enough names stand at its end
  leads_verbatim : (path r : List ℕ) → relative_text windows path dir ≡ Some r → steps_up (kinds_of windows path) (kinds_of windows dir) ≤ names_at_end (kinds_of windows dir) → route windows (push windows dir r) ≡ route windows path
  leads_verbatim path r e enough =
      let ks = kinds_of windows path in
      let ls = kinds_of windows dir in
      let ms = kinds_of windows (push windows dir r) in
      let h = read-relative windows path dir r e in
      let t = reached-told ks ls h.reached in
      let alike = relative-alike path dir r h in
      let lies = relative-place dir f is firm kind r h.reads.none (stays_relative windows path dir r e).root in
      let told = under-told (first_prefix ms) (is_anchored ms) (kept_names ms) f.prefix (left_behind dir f is firm kind r) (sym (place-kept windows (push windows dir r)) ∙ lies) in
      let fits : steps_up ks ls ≤ length last = omega (arith, enough, own-count) in
      let left : left_behind dir f is firm kind r ≡ kept_names ks =
      ap₂ (λ n ns. front ++ (take (length last - n) last ++ ns)) (alike.unmet ∙ unmet-ups (steps_up ks ls) (names_down ks ls)) (alike.names ∙ names-ups (steps_up ks ls) (names_down ks ls))
      ∙ sym (append_assoc front (take (length last - steps_up ks ls) last) (names_down ks ls))
      ∙ ap (λ ns. ns ++ names_down ks ls) (sym (take-behind front last (steps_up ks ls) fits) ∙ ap (λ ns. take (length ns - steps_up ks ls) ns) (sym own-names))
      ∙ names-met ks ls t.rising in
      let rooted : is_anchored ks ≡ true = t.anchored ∙ own-anchored in
      same-route ks ls ms h.reached (told.prefix ∙ sym (ap first_prefix (kinds-found dir f is))) (record {
        anchored = told.anchored ∙ sym rooted;
        rising = anchored-stays ms told.anchored ∙ sym (anchored-stays ks rooted);
        names = told.names ∙ left;
      })

  -- a clean one ends with all its names
  clean-count : clean_text windows dir ≡ dir → names_at_end (kinds_of windows dir) ≡ length (kept_names (kinds_of windows dir))
  clean-count same =
      let own = prefix f.prefix ∷ body_kinds (separators windows dir) (drop f.length dir) in
      let (rooted, behind) = clean-behind dir f is same in
      let none : rising own ≡ 0 = anchored-stays own (sym (ap is_anchored (kinds-found dir f is)) ∙ own-anchored) in
      ap names_at_end (kinds-found dir f is ∙ ap (λ ks. prefix f.prefix ∷ ks) (behind ∙ ap (λ n. lead rooted n (kept_names own)) none))
      ∙ lead-end rooted (kept_names own)
      ∙ ap (λ ks. length (kept_names ks)) (sym (kinds-found dir f is))

  -- so it has enough
  leads_clean_verbatim : (path r : List ℕ) → relative_text windows path dir ≡ Some r → clean_text windows dir ≡ dir → route windows (push windows dir r) ≡ route windows path
  leads_clean_verbatim path r e same =
      let ks = kinds_of windows path in
      let h = read-relative windows path dir r e in
      let rooted : is_anchored ks ≡ true = (reached-told ks (kinds_of windows dir) h.reached).anchored ∙ own-anchored in
      leads_verbatim path r e (omega (arith, clean-count same, anchored-stays ks rooted))

pub leads_windows : (path base : List ℕ) → LeadsBackOnWindows path base
leads_windows path base kept enough r e = by (has_any_verbatim_prefix (kinds_of windows base)) refl
  where
    some : has_any_verbatim_prefix (kinds_of windows base) ≡ true → (o : Option Found) → prefix_of windows base ≡ o → route windows (push windows base r) ≡ route windows path
    some kind None is = let differ : true ≡ false = sym kind ∙ verbatim-none base is in cc
    some kind (Some f) is = leads_verbatim base f is (firm-kept base f is kept) (sym (verbatim-some base f is) ∙ kind) path r e (enough kind)

    by : (b : Bool) → has_any_verbatim_prefix (kinds_of windows base) ≡ b → route windows (push windows base r) ≡ route windows path
    by true kind = some kind (prefix_of windows base) refl
    by false plain = leads_plain path base r kept plain e

pub leads_clean : (path base : List ℕ) → LeadsBackBehindClean path base
leads_clean path base kept same r e = by (has_any_verbatim_prefix (kinds_of windows base)) refl
  where
    some : has_any_verbatim_prefix (kinds_of windows base) ≡ true → (o : Option Found) → prefix_of windows base ≡ o → route windows (push windows base r) ≡ route windows path
    some kind None is = let differ : true ≡ false = sym kind ∙ verbatim-none base is in cc
    some kind (Some f) is = leads_clean_verbatim base f is (firm-kept base f is kept) (sym (verbatim-some base f is) ∙ kind) path r e same

    by : (b : Bool) → has_any_verbatim_prefix (kinds_of windows base) ≡ b → route windows (push windows base r) ≡ route windows path
    by true kind = some kind (prefix_of windows base) refl
    by false plain = leads_plain path base r kept plain e
