use Rattle.std.proofs.Common.{◌≡◌, ◌≤◌, ◌+◌, ◌-◌, ◌==◌, ◌++◌, List, length, take, drop, slice_range, sym, ap, subst, ◌∙◌, length-drop, arith, ℕ, take-append-drop, drop-drop}
use Rattle.typed_path.specs.components.{windows, is_empty, parts_of}
use Rattle.typed_path.specs.changes.{merged, Stands}
use Rattle.typed_path.proofs.lemmas.changes.WindowsPushes.{path-length}
use Rattle.typed_path.proofs.lemmas.changes.MergedInPlace.{spelled-stands, spelled-prefixed_list, merged-text, place-prefix, place-text, place-behind}
use Rattle.typed_path.proofs.windows.push.merge_in_place.Goals as goal

-- the room that was found is enough
refuted : goal.After-from_residual-in_err-merge_path → ⊥
refuted c = grind arith

pub returns-in_err-merge_path-clause-err : goal.returns-in_err-merge_path-clause-err
returns-in_err-merge_path-clause-err c = absurd (refuted c)

pub returns-in_err-merge_path-clause-succeeds : goal.returns-in_err-merge_path-clause-succeeds
returns-in_err-merge_path-clause-succeeds c = absurd (refuted c)

-- nothing stands behind the prefix exactly where that ends where the base does
parted-is : (n m : ℕ) (rest : List ℕ) → n ≤ m → length rest ≡ m - n → (n == m) ≡ is_empty rest
parted-is n m rest within size = grind arith

pub returns-clause-ok : goal.returns-clause-ok
returns-clause-ok c = λ known.
    let old = c.args.text.now.items in
    let start = c.args.start in
    let head = c.args.head in
    let kept = c.args.kept in
    let other = c.args.other.now in
    let base = slice_range old start kept in
    let new = c.merge_path.new.text.items in
    let now = c.in_ok-merge_path.field-0 in
    let cut : c.truncate.new.self.items ≡ take kept old = c.truncate.ensures.items ∙ ap (take kept) c.in_ok-reserve.ensures.items in
    let same : take (start + head) new ≡ take (start + head) (take kept old) = c.in_ok-merge_path.ensures.kept ∙ ap (take (start + head)) cut in
    let size : length (drop head base) ≡ kept - (start + head) =
    omega (arith, length-drop head base, path-length old start kept (omega (arith, c.requires.inside)) c.requires.within) in
    let behind : drop (start + head) c.truncate.new.self.items ≡ drop head base = ap (drop (start + head)) cut ∙ place-behind old new start head kept c.requires.inside c.requires.within same in
    let stands : Stands (start + head == kept) (drop 1 (parts_of windows base)) (drop (start + head) c.truncate.new.self.items) =
    subst (λ b. Stands b (drop 1 (parts_of windows base)) (drop (start + head) c.truncate.new.self.items)) (sym (parted-is (start + head) kept (drop head base) c.requires.inside size))
    (subst (Stands (is_empty (drop head base)) (drop 1 (parts_of windows base))) (sym behind) (spelled-stands base head known.0 known.1)) in
    let merged_now : Stands now (merged (drop 1 (parts_of windows base)) (parts_of windows other)) (drop head (drop start new)) =
    subst (Stands now (merged (drop 1 (parts_of windows base)) (parts_of windows other))) (sym (drop-drop head start new))
    (c.in_ok-merge_path.ensures.stands (drop 1 (parts_of windows base)) stands) in
    sym (take-append-drop start new)
    ∙ place-text old new start head kept c.requires.inside c.requires.within same
    ∙ ap (λ t. take start old ++ t)
    (merged-text base other (drop start new) head now (spelled-prefixed_list base known.0.0) c.requires.no_prefix known.1 (place-prefix old new start head kept c.requires.inside c.requires.within same) merged_now)
