-- Parents and names as they are written, read as themselves; and where such a list leads.
use Rattle.std.proofs.Common.{◌≡◌, ℕ, zero, suc, ◌==◌, Bool, true, false, List, [], ◌∷◌, ◌++◌, map, if◌then◌else◌, length, refl, sym, ap, ap₂, ◌∙◌, None, true≢false}
use Rattle.std.specs.List.{AllByRecursion, join_with_byte}
use Rattle.std.proofs.lemmas.List.Elements.{All-nil, All-cons}
use Rattle.std.proofs.lemmas.List.Splits.{slice_split_none, slice_split_at, slice_split-cons_yes}
use Rattle.std.proofs.lemmas.Bool.{cond_both}
use Rattle.typed_path.specs.declared.scan.separators.Separators.{Separators}
use Rattle.typed_path.specs.components.{dot, is_separator, is_verbatim, root_text, Kind, prefix, root, current, parent, normal, Part, kinds, root_part, current_part, parent_part, name_part, is_dot, is_dot_dot}
use Rattle.typed_path.specs.places.{unmet, kept_names, is_anchored, rising, headed, parents, dots}
use Rattle.typed_path.proofs.lemmas.lists.Lists.{IsUnseparated}
use Rattle.typed_path.proofs.lemmas.components.Segments.{IsCleanName, IsWritten, IsWrittenPart, body_parts, pieces, named_part, later_part, later_parts, first_part, first_parts}
use Rattle.typed_path.proofs.lemmas.places.KeptNames.{unmet-names, kept-names}
use Rattle.typed_path.proofs.lemmas.components.Prefixes.{dot-unseparated}

-- Where parents and names lead.

abbrev pub ups : ℕ → List (List ℕ) → List Kind
ups n names = parents n ++ map normal names

-- the same behind a root or none
abbrev pub lead : Bool → ℕ → List (List ℕ) → List Kind
lead anchored n names = headed None anchored ++ ups n names

pub unmet-ups : (n : ℕ) (names : List (List ℕ)) → unmet (ups n names) ≡ n
unmet-ups zero names = unmet-names names
unmet-ups (suc n) names = ap suc (unmet-ups n names)

pub names-ups : (n : ℕ) (names : List (List ℕ)) → kept_names (ups n names) ≡ names
names-ups zero names = kept-names names
names-ups (suc n) names = names-ups n names

-- what a list leads to
pub record Leads (ks : List Kind) (rooted : Bool) (over : ℕ) (left : List (List ℕ)) : Type 0 where
  pub anchored : is_anchored ks ≡ rooted
  pub rising : rising ks ≡ over
  pub names : kept_names ks ≡ left

-- parents and names are not anchored
pub ups-free : (n : ℕ) (names : List (List ℕ)) → is_anchored (ups n names) ≡ false
ups-free (suc n) names = refl
ups-free zero [] = refl
ups-free zero (name ∷ names) = refl

-- a list leads to what it is
pub leads-by : (ks : List Kind) (rooted : Bool) (n : ℕ) (names : List (List ℕ)) → is_anchored ks ≡ rooted → (rooted ≡ true → n ≡ 0) → unmet ks ≡ n → kept_names ks ≡ names → Leads ks rooted n names
leads-by ks rooted n names is fixed over left = record { anchored = is; rising = by (is_anchored ks) rooted is fixed; names = left }
  where
    by : (a b : Bool) → a ≡ b → (b ≡ true → n ≡ 0) → (if a then 0 else unmet ks) ≡ n
    by true true e f = sym (f refl)
    by true false e f = cc
    by false b e f = over

pub leads-lead : (anchored : Bool) (n : ℕ) (names : List (List ℕ)) → (anchored ≡ true → n ≡ 0) → Leads (lead anchored n names) anchored n names
leads-lead true n names fixed = leads-by (lead true n names) true n names refl fixed (unmet-ups n names) (names-ups n names)
leads-lead false n names fixed = leads-by (lead false n names) false n names (ups-free n names) fixed (unmet-ups n names) (names-ups n names)

-- nothing is read as the current directory
abbrev pub or_current : List Kind → List Kind
or_current [] = current ∷ []
or_current (k ∷ ks) = k ∷ ks

pub leads-or_current : (ks : List Kind) (anchored : Bool) (n : ℕ) (names : List (List ℕ)) → Leads ks anchored n names → Leads (or_current ks) anchored n names
leads-or_current [] anchored n names h = record { anchored = h.anchored; rising = h.rising; names = h.names }
leads-or_current (k ∷ ks) anchored n names h = h

-- behind a root no parent rises
pub anchored-stays : (ks : List Kind) → is_anchored ks ≡ true → rising ks ≡ 0
anchored-stays ks e = ap (λ b. if b then 0 else unmet ks) e

-- where a list leads
abbrev pub lead_of : List Kind → List Kind
lead_of ks = lead (is_anchored ks) (rising ks) (kept_names ks)

-- a list leads where another does
abbrev pub LeadsAs : List Kind → List Kind → Type 0
LeadsAs ls ks = Leads ls (is_anchored ks) (rising ks) (kept_names ks)

pub leads-as-lead : (ks : List Kind) → LeadsAs (lead_of ks) ks
leads-as-lead ks = leads-lead (is_anchored ks) (rising ks) (kept_names ks) (anchored-stays ks)

-- lists that lead alike have one lead
pub alike-lead : (ls ks : List Kind) → LeadsAs ls ks → lead_of ls ≡ lead_of ks
alike-lead ls ks h = ap (λ a. lead a (rising ls) (kept_names ls)) h.anchored ∙ ap₂ (lead (is_anchored ks)) h.rising h.names

-- Segments with one separator between.

-- a segment that is read as one component
pub record IsRead (s : Separators) (segment : List ℕ) : Type 0 where
  pub filled : (length segment == 0) ≡ false
  pub no_dot : is_dot segment ≡ false
  pub unseparated : IsUnseparated (is_separator s) segment

abbrev pub AreSegments : Separators → List (List ℕ) → Type 0
AreSegments s segments = AllByRecursion (IsRead s) segments

module _ (s : Separators) where
  later-read : (segment : List ℕ) → IsRead s segment → later_part s segment ≡ named_part segment ∷ []
  later-read segment h = by (length segment == 0) (is_dot segment) h.filled h.no_dot
    where
      by : (empty dotted : Bool) → empty ≡ false → dotted ≡ false
          → (if empty then [] else (if dotted then (if is_verbatim s then current_part ∷ [] else []) else named_part segment ∷ [])) ≡ named_part segment ∷ []
      by true dotted e f = cc
      by false true e f = cc
      by false false e f = refl

  first-read : (segment : List ℕ) → IsRead s segment → first_part s segment ≡ named_part segment
  first-read segment h = by (length segment == 0) (is_dot segment) h.filled h.no_dot
    where
      by : (empty dotted : Bool) → empty ≡ false → dotted ≡ false → (if empty then root_part (root_text s) else (if dotted then current_part else named_part segment)) ≡ named_part segment
      by true dotted e f = cc
      by false true e f = cc
      by false false e f = refl

  laters-read : (segments : List (List ℕ)) → AreSegments s segments → later_parts s segments ≡ map named_part segments
  laters-read [] each = refl
  laters-read (segment ∷ segments) each = ap₂ ◌++◌ (later-read segment each.0) (laters-read segments each.1)

  -- names that are kept are names as they were read
  pub names-clean : (ps : List Part) → AllByRecursion (IsWrittenPart s) ps → AllByRecursion (IsCleanName s) (kept_names (kinds ps))
  names-clean [] each = tt
  names-clean (p ∷ ps) each = by p.kind each.0 (names-clean ps each.1)
    where
      by : (k : Kind) → IsWritten s k p.text → AllByRecursion (IsCleanName s) (kept_names (kinds ps)) → AllByRecursion (IsCleanName s) (kept_names (k ∷ kinds ps))
      by (prefix q) written rest = rest
      by root written rest = rest
      by current written rest = rest
      by parent written rest = rest
      by (normal name) written rest =
          cond_both (unmet (kinds ps) == 0) (name ∷ kept_names (kinds ps)) (kept_names (kinds ps)) (AllByRecursion (IsCleanName s)) (λ e. (written.1, rest)) (λ e. rest)

  -- the kinds of the segments
  kinds-names : (names : List (List ℕ)) → AllByRecursion (IsCleanName s) names → kinds (map named_part names) ≡ map normal names
  kinds-names [] each = refl
  kinds-names (name ∷ names) each = ap₂ (λ k ks. k ∷ ks) (by (is_dot_dot name) each.0.no_dot_dot) (kinds-names names each.1)
    where
      by : (b : Bool) → b ≡ false → (if b then parent_part else name_part name).kind ≡ normal name
      by true e = cc
      by false e = refl

  kinds-segments : (n : ℕ) (names : List (List ℕ)) → AllByRecursion (IsCleanName s) names → kinds (map named_part (dots n ++ names)) ≡ ups n names
  kinds-segments zero names each = kinds-names names each
  kinds-segments (suc n) names each = ap (λ ks. parent ∷ ks) (kinds-segments n names each)

  -- each segment is read as one component
  pub read-segments : (n : ℕ) (names : List (List ℕ)) → AllByRecursion (IsCleanName s) names → AreSegments s (dots n ++ names)
  read-segments (suc n) names each = (record { filled = refl; no_dot = refl; unseparated = dots-unseparated }, read-segments n names each)
    where
      dots-unseparated : IsUnseparated (is_separator s) (dot ∷ dot ∷ [])
      dots-unseparated = All-cons (λ b. is_separator s b ≡ false) dot (dot ∷ []) (dot-unseparated s) (All-cons (λ b. is_separator s b ≡ false) dot [] (dot-unseparated s) (All-nil _))
  read-segments zero [] each = tt
  read-segments zero (name ∷ names) each = (record { filled = each.0.filled; no_dot = each.0.no_dot; unseparated = each.0.unseparated }, read-segments zero names each.1)

  module _ (sep : ℕ) (separates : is_separator s sep ≡ true) where
    pieces-joined : (segment : List ℕ) (segments : List (List ℕ)) → AreSegments s (segment ∷ segments) → pieces s (join_with_byte sep (segment ∷ segments)) ≡ segment ∷ segments
    pieces-joined segment [] each = slice_split_none (is_separator s) segment each.0.unseparated
    pieces-joined segment (next ∷ segments) each =
        slice_split_at (is_separator s) segment sep (join_with_byte sep (next ∷ segments)) each.0.unseparated separates
        ∙ ap (λ ss. segment ∷ ss) (pieces-joined next segments each.1)

    -- segments with one separator between are read as themselves
    read-joined : (segments : List (List ℕ)) → AreSegments s segments → body_parts s (join_with_byte sep segments) ≡ map named_part segments
    read-joined [] each = refl
    read-joined ([] ∷ segments) each = absurd (true≢false each.0.filled)
    read-joined ((b ∷ bs) ∷ segments) each = by segments each
      where
        read : (c : ℕ) (cs : List ℕ) (piece : List ℕ) (more : List (List ℕ)) → c ∷ cs ≡ join_with_byte sep (piece ∷ more) → AreSegments s (piece ∷ more)
            → first_parts s (pieces s (c ∷ cs)) ≡ map named_part (piece ∷ more)
        read c cs piece more e each =
            ap (λ t. first_parts s (pieces s t)) e ∙ ap (first_parts s) (pieces-joined piece more each)
            ∙ ap₂ (λ p ps. p ∷ ps) (first-read piece each.0) (laters-read more each.1)

        by : (more : List (List ℕ)) → AreSegments s ((b ∷ bs) ∷ more) → body_parts s (join_with_byte sep ((b ∷ bs) ∷ more)) ≡ map named_part ((b ∷ bs) ∷ more)
        by [] each = read b bs (b ∷ bs) [] refl each
        by (next ∷ more) each = read b (bs ++ sep ∷ join_with_byte sep (next ∷ more)) (b ∷ bs) (next ∷ more) refl each

    -- so they are behind a separator
    later-joined : (segments : List (List ℕ)) → AreSegments s segments → later_parts s (pieces s (join_with_byte sep segments)) ≡ map named_part segments
    later-joined [] each = refl
    later-joined (segment ∷ segments) each = ap (later_parts s) (pieces-joined segment segments each) ∙ laters-read (segment ∷ segments) each

    module _ (n : ℕ) (names : List (List ℕ)) (each : AllByRecursion (IsCleanName s) names) where
      -- parents and names alone, behind the root, and behind a current directory
      pub read-ups : kinds (body_parts s (join_with_byte sep (dots n ++ names))) ≡ ups n names
      read-ups = ap kinds (read-joined (dots n ++ names) (read-segments n names each)) ∙ kinds-segments n names each

      pub read-root : kinds (body_parts s (sep ∷ join_with_byte sep (dots n ++ names))) ≡ root ∷ ups n names
      read-root =
          ap (λ ss. kinds (first_parts s ss)) (slice_split-cons_yes (is_separator s) sep (join_with_byte sep (dots n ++ names)) separates)
          ∙ ap (λ ps. root ∷ kinds ps) (later-joined (dots n ++ names) (read-segments n names each)) ∙ ap (λ ks. root ∷ ks) (kinds-segments n names each)

      pub read-dot : kinds (body_parts s (dot ∷ sep ∷ join_with_byte sep (dots n ++ names))) ≡ current ∷ ups n names
      read-dot =
          ap (λ ss. kinds (first_parts s ss)) (slice_split_at (is_separator s) (dot ∷ []) sep (join_with_byte sep (dots n ++ names)) (All-cons (λ b. is_separator s b ≡ false) dot [] (dot-unseparated s) (All-nil _)) separates)
          ∙ ap (λ ps. current ∷ kinds ps) (later-joined (dots n ++ names) (read-segments n names each)) ∙ ap (λ ks. current ∷ ks) (kinds-segments n names each)
