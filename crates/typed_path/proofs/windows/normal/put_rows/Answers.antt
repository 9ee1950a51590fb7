use Rattle.std.proofs.Common.{◌≡◌, ◌≤◌, ◌++◌, ℕ, List, [], length, take, refl, ap, sym, subst, ◌∙◌, append_assoc, length-append, arith, take_at, take-take}
use Rattle.typed_path.specs.declared.scan.separators.Separators.TheVariants.{Either}
use Rattle.typed_path.specs.components.{windows}
use Rattle.typed_path.specs.places.{normal_text, rows_of, names_left_of, AreRowsOf}
use Rattle.typed_path.proofs.lemmas.places.UnixRows.{rows-start, normal-end}
use Rattle.typed_path.proofs.windows.normal.put_rows.Goals as goal

pub returns-clause-ok : goal.returns-clause-ok
returns-clause-ok c = λ done path is.
    let before = c.args.text.now.items in
    let prefix = c.args.head.prefix.now in
    let root = c.args.head.root.now in
    let rest = c.args.head.rest.now in
    let head = before ++ prefix ++ root in
    let P : List ℕ → Type 0 = λ t. AreRowsOf Either t head [] in
    let begun : c.extend_from_slice-2.new.self.items ≡ head = c.in_ok-extend_from_slice-2.ensures.items ∙ ap (λ t. t ++ root) c.in_ok-extend_from_slice.ensures.items in
    let size : length head ≡ c.len-len.result = omega (arith, c.len-len.ensures, c.extend_from_slice-2.new.self.ok, ap length begun) in
    let rows = c.in_ok-put_segments.ensures.ok c.if-not-branch.false head size (subst P (sym begun) (rows-start Either head)) in
    let own = prefix ++ root in
    let names = rows_of Either (names_left_of Either rest) in
    let shift : head ≡ before ++ own = append_assoc before prefix root in
    let sizes : length head ≡ length (before ++ own) = ap length shift in
    normal-end (normal_text windows path) before own (own ++ names) c.put_segments.new.text.items _ (is (own ++ names) (record { drives = rows.drives; is = refl }))
    (rows.is ∙ ap (λ t. t ++ names) shift ∙ append_assoc before own names)
    (λ more. c.drop_separator.ensures.named (omega (arith, size, sizes, more)))
    (λ fits. c.drop_separator.ensures.alone (omega (arith, size, sizes, fits)))

-- what stood before the head stays
kept-before : (before prefix root first begun new : List ℕ) (len : ℕ) → first ≡ before ++ prefix → begun ≡ first ++ root → length begun ≡ len → take len new ≡ take len begun → take (length before) new ≡ before
kept-before before prefix root first begun new len one two size e =
    let is : begun ≡ before ++ (prefix ++ root) = two ∙ ap (λ t. t ++ root) one ∙ append_assoc before prefix root in
    let fits : length before ≤ len = omega (arith, size, ap length is, length-append before (prefix ++ root)) in
    sym (take-take (length before) len new fits) ∙ ap (take (length before)) (e ∙ ap (take len) is) ∙ take-take (length before) len (before ++ (prefix ++ root)) fits
    ∙ take_at before (prefix ++ root) (length before) refl

pub returns-clause-kept : goal.returns-clause-kept
returns-clause-kept c = grind (arith, kept-before)

pub returns-in_err-put_segments-clause-kept : goal.returns-in_err-put_segments-clause-kept
returns-in_err-put_segments-clause-kept c = grind (arith, kept-before, c.in_ok-extend_from_slice.ensures.items, c.in_ok-extend_from_slice-2.ensures.items, c.len-len.ensures, c.put_segments.ensures.kept)

pub returns-then-not-branch-clause-kept : goal.returns-then-not-branch-clause-kept
returns-then-not-branch-clause-kept c = grind (arith, kept-before)
