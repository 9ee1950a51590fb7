-- How long a path is that another is pushed onto, and what joins two components.
use Rattle.std.proofs.Common.{◌≡◌, ℕ, ◌+◌, ◌≤◌, if◌then◌else◌, List, [], ◌∷◌, ◌++◌, length, take, drop, Option, Some, None, is_some, refl, ap, arith, length-append, length-take, length-drop}
use Rattle.std.proofs.lemmas.Grind.{common_steps}
use Rattle.std.proofs.lemmas.Bool.{cond_both}
use Rattle.std.proofs.lemmas.List.Sums.{sum_by-cons, sum_by-append}
use Rattle.typed_path.specs.declared.scan.separators.Separators.TheVariants.{Either}
use Rattle.typed_path.specs.components.{Dialect, unix, windows, separators, Kind, prefix, root, current, parent, normal, Part, kinds, is_name, prefix_part, Found, prefix_of, comps, parts_of}
use Rattle.typed_path.specs.scan.{left}
use Rattle.typed_path.specs.queries.{has_prefix, has_any_verbatim_prefix, begins_with_root, file_name_of}
use Rattle.typed_path.specs.changes.{push, push_unix, push_windows, push_behind, ended_with, ended_windows, raw_prefix, raw_length, spelled, merged, merge_by_kind, prefix_alone, without_last_name, joint, room_of, with_extension, popped, with_file_name}
use Rattle.typed_path.proofs.lemmas.components.Segments.{body_parts}
use Rattle.typed_path.proofs.lemmas.components.Prefixes.{prefix-fits}
use Rattle.typed_path.proofs.lemmas.components.PrefixCuts.{parts_of-none, parts_of-some}
use Rattle.typed_path.proofs.lemmas.changes.MergedInPlace.{room-body, room-text}
use Rattle.typed_path.proofs.lemmas.lists.Lists.{slice-length}

-- the room that the component of a piece takes
abbrev pub size : Part → ℕ
size p = length p.text + (if begins_with_root (p.kind ∷ []) then 0 else 1)

-- the components of a path take two bytes more than the path at the most
room-parts : (t : List ℕ) → room_of (parts_of windows t) ≤ length t + 2
room-parts t = by (prefix_of windows t) refl
  where
    by : (o : Option Found) → prefix_of windows t ≡ o → room_of (parts_of windows t) ≤ length t + 2
    by None e = omega (arith, ap room_of (parts_of-none t e), room-body Either t)
    by (Some f) e =
        let behind = body_parts (separators windows t) (drop f.length t) in
        omega (
          arith,
          ap room_of (parts_of-some t f e),
          sum_by-cons size (prefix_part f.prefix (take f.length t)) behind,
          room-body (separators windows t) (drop f.length t),
          length-take f.length t,
          length-drop f.length t,
          (prefix-fits windows t f e).fits,
        )

-- a list that takes components takes no more room than both
one-room : (p : Part) (ps : List Part) → room_of (p ∷ []) ≤ room_of (p ∷ ps)
one-room p ps = omega (arith, sum_by-cons size p [], sum_by-cons size p ps)

alone-room : (ps : List Part) → room_of (prefix_alone ps) ≤ room_of ps
alone-room ps = grind (arith, cond_both, one-room)

cut-room : (ps : List Part) → room_of (without_last_name ps) ≤ room_of ps
cut-room [] = omega arith
cut-room (p ∷ []) = cond_both (is_name p.kind) [] (p ∷ []) (λ qs. room_of qs ≤ room_of (p ∷ [])) (λ e. omega arith) (λ e. omega arith)
cut-room (p ∷ q ∷ ps) = omega (arith, cut-room (q ∷ ps), sum_by-cons size p (q ∷ ps), sum_by-cons size p (without_last_name (q ∷ ps)))

more-room : (ps : List Part) (p : Part) (k : Kind) → room_of (merge_by_kind ps p k) ≤ room_of ps + room_of (p ∷ [])
more-room ps p root = omega (arith, alone-room ps, sum_by-append size (prefix_alone ps) (p ∷ []))
more-room ps p current = omega arith
more-room ps p parent = omega (arith, cut-room ps)
more-room ps p (prefix q) = omega (arith, sum_by-append size ps (p ∷ []))
more-room ps p (normal name) = omega (arith, sum_by-append size ps (p ∷ []))

merged-room : (ps qs : List Part) → room_of (merged ps qs) ≤ room_of ps + room_of qs
merged-room ps [] = omega arith
merged-room ps (q ∷ qs) =
    omega (arith, merged-room (merge_by_kind ps q q.kind) qs, more-room ps q q.kind, sum_by-cons size q qs, sum_by-cons size q [])

pub joint-size : (k l : Kind) → (length (joint k l) ≤ (if begins_with_root (k ∷ []) then 0 else 1)) × (length (joint k l) ≤ (if begins_with_root (l ∷ []) then 0 else 1))
joint-size k l = grind arith

-- a list takes so much room where it is written anew
spelled-room : (ps : List Part) → length (spelled ps) ≤ room_of ps
spelled-room [] = omega arith
spelled-room (p ∷ []) = omega (arith, sum_by-cons size p [])
spelled-room (p ∷ q ∷ ps) = grind (arith, common_steps, joint-size, sum_by-cons, length-append, spelled-room (q ∷ ps))

pub ended-length : (b : ℕ) (t : List ℕ) → length (ended_with b t) ≤ length t + 1
ended-length b t = cond_both _ t (t ++ b ∷ []) (λ u. length u ≤ length t + 1) (λ e. omega arith) (λ e. omega (arith, length-append t (b ∷ [])))

unix-length : (base path : List ℕ) → length (push_unix base path) ≤ length base + length path + 3
unix-length base path = grind (arith, ended-length, length-append)

windows-ended : (base : List ℕ) → length (ended_windows base) ≤ length base + 1
windows-ended base = grind (arith, cond_both, ended-length)

behind-length : (base path : List ℕ) → length (push_behind base path) ≤ length base + length path + 1
behind-length base path =
    cond_both (begins_with_root (kinds (parts_of windows path))) (raw_prefix base ++ path) (ended_windows base ++ path) (λ t. length t ≤ length base + length path + 1)
    (λ e. omega (arith, length-append (raw_prefix base) path, length-take (raw_length (prefix_of windows base)) base))
    (λ e. omega (arith, length-append (ended_windows base) path, windows-ended base))

windows-length : (base path : List ℕ) → length (push_windows base path) ≤ length base + length path + 3
windows-length base [] = omega arith
windows-length base (b ∷ path) =
    cond_both (has_prefix (kinds (parts_of windows (b ∷ path)))) (b ∷ path) _ (λ t. length t ≤ length base + length (b ∷ path) + 3) (λ e. omega arith)
    (λ none. cond_both (has_any_verbatim_prefix (kinds (parts_of windows base))) (spelled (merged (parts_of windows base) (parts_of windows (b ∷ path)))) (push_behind base (b ∷ path))
    (λ t. length t ≤ length base + length (b ∷ path) + 3)
    (λ e. omega (arith, spelled-room (merged (parts_of windows base) (parts_of windows (b ∷ path))), merged-room (parts_of windows base) (parts_of windows (b ∷ path)), room-parts base, room-text (b ∷ path) none))
    (λ e. omega (arith, behind-length base (b ∷ path))))

-- a path onto which another is pushed has three bytes more than both at the most
pub push_length : (d : Dialect) (base path : List ℕ) → length (push d base path) ≤ length base + length path + 3
push_length unix base path = unix-length base path
push_length windows base path = windows-length base path

-- and one with another extension one byte more than the path and the extension
pub with_extension_length : (d : Dialect) (t ext : List ℕ) → length (with_extension d t ext) ≤ length t + length ext + 1
with_extension_length d t ext = grind (arith, length-append, length-take)

parent-length : (d : Dialect) (t : List ℕ) → length (left (comps d t) t 0 1) ≤ length t
parent-length d t = grind (arith, common_steps, cond_both, slice-length)

popped-length : (d : Dialect) (t : List ℕ) → length (popped d t) ≤ length t
popped-length d t = grind (arith, cond_both, parent-length)

-- so with another file name it has three bytes more than both at the most
pub with_file_name_length : (d : Dialect) (t name : List ℕ) → length (with_file_name d t name) ≤ length t + length name + 3
with_file_name_length d t name =
    cond_both (is_some (file_name_of d t)) (popped d t) t (λ u. length (push d u name) ≤ length t + length name + 3)
    (λ e. omega (arith, push_length d (popped d t) name, popped-length d t)) (λ e. push_length d t name)
