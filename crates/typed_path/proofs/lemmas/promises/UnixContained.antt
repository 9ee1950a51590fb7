-- The normal text of Unix, which is its own normal text, a relative path joined on Unix, and where a checked one leads.
use Rattle.std.proofs.Common.{◌≡◌, ℕ, zero, suc, true, false, if◌then◌else◌, List, [], ◌∷◌, ◌++◌, map, refl, sym, ap, ◌∙◌, ◌==◌, length, append_assoc, append-nil, ne_eqb, arith, ◌-◌, ◌<◌, drop, bytes_eq, None, ap₂, inl, inr}
use Rattle.std.proofs.lemmas.Grind.{common_steps}
use Rattle.std.proofs.lemmas.List.{map-append, drop-map, drop_all, length-map}
use Rattle.std.specs.List.{AllByRecursion}
use Rattle.std.proofs.lemmas.List.Splits.{slice_split-cons_yes}
use Rattle.std.proofs.lemmas.Bool.{cases_lt}
use Rattle.std.proofs.lemmas.Slice.Eq.{starts_is, bytes_eq-Decides}
use Rattle.typed_path.specs.declared.scan.separators.Separators.{Separators}
use Rattle.typed_path.specs.declared.scan.separators.Separators.TheVariants.{Slash}
use Rattle.typed_path.specs.components.{unix, slash, is_verbatim, Kind, prefix, root, current, parent, normal, Part, kinds, texts, name_part, parts, parts_of, is_dot, is_dot_dot, comps}
use Rattle.typed_path.specs.queries.{begins_with_root, path_starts_with}
use Rattle.typed_path.specs.changes.{fault, ended_with, push_unix, push_all}
use Rattle.typed_path.specs.places.{resolve, place, stays, normal_text, with_implied_root}
use Rattle.typed_path.specs.promises.{HasPrefixOf, LiesWithin, ReadsAsResolved, StaysNormal, IsCanonical, IsCanonicalForm, without_leading_current, JoinAppends, StripJoins}
use Rattle.typed_path.specs.scan.{left, start_at}
use Rattle.typed_path.proofs.lemmas.changes.Faults.{fault_behind-at, fault_at-closed, no_heads-relative}
use Rattle.typed_path.proofs.lemmas.components.Segments.{body_parts, body_parts-read, IsCleanName, IsLaterPart, IsWritten, AreRead, text_by_kind, texts-read, pieces, later_parts, parts-later_body, IsWrittenPart, each-written, parts_of-unix, later_parts-name, body_parts-name, body_parts-ended}
use Rattle.typed_path.proofs.lemmas.places.Resolving.{IsKept, resolve-kept, resolve-read, resolve-resolve, resolve-append, overdraws-without_leading_current, resolve-without_leading_current}
use Rattle.typed_path.proofs.lemmas.lists.Lists.{map-through, AllByRecursion-weaker}
use Rattle.typed_path.proofs.lemmas.scan.Readings.{left-taken, left-all, left-front}
use Rattle.typed_path.proofs.lemmas.components.Cuts.{body-filled, tail}

-- The normal text of a Unix path reads as what its list resolves to, is its own normal text, and is one text for each such list.

-- a name pushed onto a text stands behind a separator
pub push_unix-name : (base name : List ℕ) → IsCleanName Slash name → push_unix base name ≡ ended_with slash base ++ name
push_unix-name base name clean = grind arith

-- a name pushed onto a text adds one component
push_unix-parts : (base name : List ℕ) → (length base == 0) ≡ false → IsCleanName Slash name → body_parts Slash (push_unix base name) ≡ body_parts Slash base ++ name_part name ∷ []
push_unix-parts base name filled clean =
    ap (body_parts Slash) (push_unix-name base name clean) ∙ body_parts-ended Slash slash base name refl filled ∙ ap (λ ps. body_parts Slash base ++ ps) (later_parts-name Slash name clean)

-- a text with a name behind it is not empty
push_unix-filled : (base name : List ℕ) → IsCleanName Slash name → (length (push_unix base name) == 0) ≡ false
push_unix-filled base name clean = grind (arith, common_steps)

-- a later component that a list resolves to is a name
later-name : (p : Part) → IsLaterPart Slash p → IsKept p → (p ≡ name_part p.text) × IsCleanName Slash p.text
later-name p later kept = grind arith

-- names pushed one by one add one component each
push_all-names : (base : List ℕ) (ps : List Part) → (length base == 0) ≡ false → AllByRecursion (IsLaterPart Slash) ps → AllByRecursion IsKept ps
    → body_parts Slash (push_all unix base (texts ps)) ≡ body_parts Slash base ++ ps
push_all-names base [] filled later kept = sym (append-nil (body_parts Slash base))
push_all-names base (p ∷ ps) filled later kept =
    let name = later-name p later.0 kept.0 in
    push_all-names (push_unix base p.text) ps (push_unix-filled base p.text name.1) later.1 kept.1
    ∙ ap (λ qs. qs ++ ps) (push_unix-parts base p.text filled name.1)
    ∙ append_assoc (body_parts Slash base) (name_part p.text ∷ []) ps
    ∙ ap (λ q. body_parts Slash base ++ q ∷ ps) (sym name.0)

-- a first component pushed onto the empty text is read as itself
push_all-first : (k : Kind) (text : List ℕ) (ps : List Part) → IsWritten Slash k text → stays k [] ≡ true → AllByRecursion (IsLaterPart Slash) ps → AllByRecursion IsKept ps
    → body_parts Slash (push_all unix [] (text ∷ texts ps)) ≡ record { kind = k; text = text } ∷ ps
push_all-first k text ps written kept later rest = grind (arith, push_all-names, body_parts, push_unix-name, body_parts-name)

-- a root and names, pushed one by one onto the empty text, are read as themselves
push_all-read : (ps : List Part) → AreRead Slash ps → AllByRecursion IsKept ps → parts_of unix (push_all unix [] (texts ps)) ≡ ps
push_all-read ps read kept = grind (arith, parts_of-unix, push_all-first)

-- what the list of a Unix path resolves to is a list as it is read
pub resolved-read : (t : List ℕ) → AreRead Slash (resolve (parts_of unix t))
resolved-read t = resolve-read Slash (parts_of unix t) (rw (parts_of-unix t) (body_parts-read Slash t))

-- a normal text reads as what the list resolves to
pub reads_as_resolved : (t : List ℕ) → ReadsAsResolved t
reads_as_resolved t = push_all-read (resolve (parts_of unix t)) (resolved-read t) (resolve-kept (parts_of unix t))

-- a normal text is its own normal text
pub stays_normal : (t : List ℕ) → StaysNormal t
stays_normal t = ap (λ ps. push_all unix [] (texts ps)) (ap resolve (reads_as_resolved t) ∙ resolve-resolve (parts_of unix t))

-- two normal texts are equal exactly if both lists resolve to the same kinds
pub is_canonical : (t u : List ℕ) → IsCanonical t u
is_canonical t u = (
  (λ e. ap kinds (sym (reads_as_resolved t) ∙ ap (parts_of unix) e ∙ reads_as_resolved u)),
  λ e. ap (push_all unix []) (texts_of t ∙ ap (map (text_by_kind Slash)) e ∙ sym (texts_of u)),
)
  where
    texts_of : (v : List ℕ) → texts (resolve (parts_of unix v)) ≡ map (text_by_kind Slash) (kinds (resolve (parts_of unix v)))
    texts_of v = texts-read Slash (resolve (parts_of unix v)) (resolved-read v)

-- a normal text of Unix has the canonical form
pub canonical_form : (t : List ℕ) → IsCanonicalForm t (normal_text unix t)
canonical_form t = record { reads = reads_as_resolved t; stays = stays_normal t; alone = λ u. is_canonical t u }

-- A Unix path with a relative one joined to it.

-- a text that is empty or begins with no slash is read as later pieces, once it is pushed
pub push_unix-behind : (base path : List ℕ) → (length base == 0) ≡ false → begins_with_root (kinds (body_parts Slash path)) ≡ false
    → body_parts Slash (push_unix base path) ≡ body_parts Slash base ++ later_parts Slash (pieces Slash path)
push_unix-behind base path filled relative = grind (arith, append-nil, body_parts, later_parts, pieces, slice_split-cons_yes, body_parts-ended)

-- an empty text is read as no pieces, both at the beginning and later
pub body_parts-later : (s : Separators) (path : List ℕ) → is_verbatim s ≡ false → begins_with_root (kinds (body_parts s path)) ≡ false → later_parts s (pieces s path) ≡ without_leading_current (body_parts s path)
body_parts-later s path plain relative = grind arith

-- a relative path joined to a base that is not empty
pub join_appends : (base path : List ℕ) → JoinAppends base path
join_appends base path filled relative = grind (arith, body_parts, parts_of-unix, push_unix-behind, body_parts-later)

-- A checked push on Unix stays within its base.

-- no root is implied by a list without a prefix
with_implied_root-read : (ps : List Part) → AreRead Slash ps → with_implied_root (kinds ps) ≡ kinds ps
with_implied_root-read ps read = grind arith

-- the place of a Unix path is what its list resolves to
place-unix : (t : List ℕ) → place unix t ≡ kinds (resolve (parts_of unix t))
place-unix t = with_implied_root-read (resolve (parts_of unix t)) (resolved-read t)

-- pushed onto the empty path, a path stays as it is
pub push_unix-nothing : (path : List ℕ) → push_unix [] path ≡ path
push_unix-nothing path = grind arith

-- a path that is not refused resolves behind what its base resolves to
resolve-pushed : (base path : List ℕ) → fault unix path ≡ None → resolve (parts_of unix (push_unix base path)) ≡ resolve (parts_of unix base) ++ resolve (parts_of unix path)
resolve-pushed [] path accepted = ap (λ t. resolve (parts_of unix t)) (push_unix-nothing path)
resolve-pushed (b ∷ base) path accepted =
    let judged = sym (fault_behind-at unix [] zero (kinds (parts_of unix path)) refl) ∙ accepted in
    let closed = overdraws-without_leading_current zero (parts_of unix path) ∙ (fault_at-closed unix zero (kinds (parts_of unix path)) judged).0 in
    ap resolve (join_appends (b ∷ base) path (omega arith) (no_heads-relative (kinds (parts_of unix path)) (fault_at-closed unix zero (kinds (parts_of unix path)) judged).1))
    ∙ resolve-append (parts_of unix (b ∷ base)) (without_leading_current (parts_of unix path)) closed
    ∙ ap (λ ps. resolve (parts_of unix (b ∷ base)) ++ ps) (resolve-without_leading_current (parts_of unix path))

pub contained : (base path : List ℕ) → fault unix path ≡ None → LiesWithin unix base path (push_unix base path)
contained base path accepted stays = grind (arith, place-unix, resolve-pushed, map-append)

pub keeps : (base path : List ℕ) → fault unix path ≡ None → HasPrefixOf unix base (push_unix base path)
keeps base path accepted kept = refl

-- What is left of a Unix path behind a base, joined to that base.

-- the kind of a component, as its text tells it
kind_by_text : List ℕ → Kind
kind_by_text text = if bytes_eq text (slash ∷ []) then root else (if is_dot text then current else (if is_dot_dot text then parent else normal text))

-- a clean name is not the root's text
clean-no_root : (name : List ℕ) → IsCleanName Slash name → bytes_eq name (slash ∷ []) ≡ false
clean-no_root name clean = grind arith

-- a component that is written as its kind tells has the kind that its text tells
kind-written : (k : Kind) (text : List ℕ) → IsWritten Slash k text → k ≡ kind_by_text text
unfolding kind_by_text
kind-written (prefix p) text written = absurd written
kind-written root text written = rw written
kind-written current text written = rw written
kind-written parent text written = rw written
kind-written (normal name) text written = rw (written.0, clean-no_root name written.1, written.1.no_dot, written.1.no_dot_dot)

-- the texts of a Unix path tell its kinds
kinds-texts : (t : List ℕ) → kinds (parts_of unix t) ≡ map kind_by_text (texts (parts_of unix t))
kinds-texts t =
    let read = AllByRecursion-weaker (IsWrittenPart Slash) (λ p. p.kind ≡ kind_by_text p.text) (λ p. kind-written p.kind p.text) (body_parts Slash t) (each-written Slash (body_parts Slash t) (body_parts-read Slash t)) in
    rw (parts_of-unix t) (map-through (λ p. p.text) (λ p. p.kind) kind_by_text (body_parts Slash t) read)

-- a path that begins with a base has its kinds, and more behind them
kinds-begin : (t b : List ℕ) → path_starts_with unix t b ≡ true → kinds (parts_of unix t) ≡ kinds (parts_of unix b) ++ drop (length (comps unix b)) (kinds (parts_of unix t))
kinds-begin t b begins =
    let T = texts (parts_of unix t) in
    let B = texts (parts_of unix b) in
    let n = length (comps unix b) in
    let size : length B ≡ n = length-map (parts_of unix b) (λ p. p.text) ∙ length-map (comps unix b) (λ c. c.part) in
    let split : T ≡ B ++ drop (length B) T = (starts_is bytes_eq-Decides T B true (sym begins)).0 refl in
    kinds-texts t
    ∙ ap (map kind_by_text) (split ∙ ap (λ m. B ++ drop m T) size)
    ∙ map-append kind_by_text B (drop n T)
    ∙ ap₂ ◌++◌ (sym (kinds-texts b)) (sym (drop-map kind_by_text n T) ∙ ap (drop n) (sym (kinds-texts t)))

-- a text whose first piece is filled has no root
filled-relative : (s : Separators) (text head : List ℕ) (others : List (List ℕ)) → pieces s text ≡ head ∷ others → (length head == 0) ≡ false → begins_with_root (kinds (body_parts s text)) ≡ false
filled-relative s text head others split filled = grind arith

-- a base with more behind it: the kinds of the base, and those of the components from there on
push_unix-tail : (t b : List ℕ) (k : ℕ) → (length b == 0) ≡ false → suc k < length (comps unix t)
    → kinds (parts_of unix (push_unix b (left (comps unix t) t (suc k) 0))) ≡ kinds (parts_of unix b) ++ drop (suc k) (kinds (parts_of unix t))
push_unix-tail t b k filled more =
    let S = start_at (comps unix t) (suc k) in
    let r = drop (S - 0) t in
    let end = tail Slash 0 t k more in
    let rest : left (comps unix t) t (suc k) 0 ≡ r = left-front (comps unix t) t (suc k) (omega arith) more ∙ ap (λ n. drop n t) (omega arith) in
    let kinds_of : later_parts Slash (pieces Slash r) ≡ parts (drop (suc k) (comps unix t)) = sym (parts-later_body Slash S r) ∙ ap parts end.rest in
    ap (λ u. kinds (parts_of unix (push_unix b u))) rest
    ∙ ap kinds (parts_of-unix (push_unix b r) ∙ push_unix-behind b r filled (filled-relative Slash r end.head end.others end.split end.filled))
    ∙ map-append (λ p. p.kind) (body_parts Slash b) (later_parts Slash (pieces Slash r))
    ∙ ap₂ ◌++◌ (ap kinds (sym (parts_of-unix b))) (ap kinds (kinds_of ∙ sym (drop-map (λ c. c.part) (suc k) (comps unix t))) ∙ sym (drop-map (λ p. p.kind) (suc k) (parts_of unix t)))

-- a path has as many kinds as components
count : (t : List ℕ) → length (kinds (parts_of unix t)) ≡ length (comps unix t)
count t = length-map (parts_of unix t) (λ p. p.kind) ∙ length-map (comps unix t) (λ c. c.part)

-- what is left of a path behind a base, joined to that base
left_joins : (t b : List ℕ) → path_starts_with unix t b ≡ true → kinds (parts_of unix (push_unix b (left (comps unix t) t (length (comps unix b)) 0))) ≡ kinds (parts_of unix t)
left_joins t [] begins = ap (λ u. kinds (parts_of unix u)) (push_unix-nothing (left (comps unix t) t 0 0) ∙ left-all (comps unix t) t)
left_joins t (b ∷ bs) begins = by (length (comps unix (b ∷ bs))) refl (body-filled Slash 0 (b ∷ bs) (omega arith))
  where
    by : (n : ℕ) → length (comps unix (b ∷ bs)) ≡ n → 0 < n → kinds (parts_of unix (push_unix (b ∷ bs) (left (comps unix t) t n 0))) ≡ kinds (parts_of unix t)
    by zero size some = absurd (omega arith)
    by (suc k) size some =
        let split = kinds-begin t (b ∷ bs) begins ∙ ap (λ m. kinds (parts_of unix (b ∷ bs)) ++ drop m (kinds (parts_of unix t))) size in
        elim (cases_lt (suc k) (length (comps unix t))) [
          | inl more ↦ push_unix-tail t (b ∷ bs) k (ne_eqb (suc (length bs)) 0 (λ e. cc)) more ∙ sym split
          | inr all ↦
              let K = kinds (parts_of unix t) in
              let long : length K ≡ length (comps unix t) = count t in
              let same : K ≡ kinds (parts_of unix (b ∷ bs)) = split ∙ ap (λ ks. kinds (parts_of unix (b ∷ bs)) ++ ks) (drop_all (suc k) K (omega arith)) ∙ append-nil (kinds (parts_of unix (b ∷ bs))) in
              let nothing : left (comps unix t) t (suc k) 0 ≡ [] = left-taken (comps unix t) t (suc k) 0 (omega (arith, ap length same, count (b ∷ bs))) (omega (arith, ap length same, count (b ∷ bs))) in
              ap (λ u. kinds (parts_of unix (push_unix (b ∷ bs) u))) nothing ∙ sym same
        ]

-- where a path begins with a base, what is left of it, joined to that base, equals the path
pub strip_joins : (t b : List ℕ) → StripJoins t b
strip_joins t b rest h = grind (arith, left_joins)
