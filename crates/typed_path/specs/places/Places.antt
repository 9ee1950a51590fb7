-- Where a path leads: its component list once the parents have taken names away.
use Rattle.std.specs.Prelude.{ℕ, zero, suc, List, [], ◌∷◌, ◌++◌, Bool, true, false, not, if◌then◌else◌}
use Rattle.typed_path.specs.components.Dialects.{Dialect}
use Rattle.typed_path.specs.components.Parts.{Kind, prefix, root, current, parent, normal, Part, kinds, texts}
use Rattle.typed_path.specs.components.Comps.{parts_of}
use Rattle.typed_path.specs.queries.Queries.{is_disk, begins_with_root}
use Rattle.typed_path.specs.changes.Push.{push_all}

-- some beginning of the list holds more parents than names, where `names` stand before it
abbrev pub overdraws : ℕ → List Kind → Bool
overdraws names [] = false
overdraws zero (parent ∷ ks) = true
overdraws (suc names) (parent ∷ ks) = overdraws names ks
overdraws names (normal name ∷ ks) = overdraws (suc names) ks
overdraws names (prefix p ∷ ks) = overdraws names ks
overdraws names (root ∷ ks) = overdraws names ks
overdraws names (current ∷ ks) = overdraws names ks

-- a component that no parent in what follows takes away
abbrev pub stays : Kind → List Kind → Bool
stays (prefix p) ks = true
stays root ks = true
stays current ks = false
stays parent ks = false
stays (normal name) ks = not (overdraws zero ks)

-- the prefix, the root, and the names that no parent takes away
abbrev pub resolve : List Part → List Part
resolve [] = []
resolve (p ∷ ps) = (if stays p.kind (kinds ps) then p ∷ [] else []) ++ resolve ps

-- behind a prefix other than a drive stands a root, written or not
abbrev pub with_implied_root : List Kind → List Kind
with_implied_root (prefix p ∷ ks) =
    if is_disk p then prefix p ∷ ks else (if begins_with_root ks then prefix p ∷ ks else prefix p ∷ root ∷ ks)
with_implied_root ks = ks

-- where a path leads
abbrev pub place : Dialect → List ℕ → List Kind
place d t = with_implied_root (kinds (resolve (parts_of d t)))

-- the normal text: what the list resolves to, pushed one by one
abbrev pub normal_text : Dialect → List ℕ → List ℕ
normal_text d t = push_all d [] (texts (resolve (parts_of d t)))
