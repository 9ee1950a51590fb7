use Rattle.std.proofs.Common.{rules, ◌≡◌, ◌<◌, ℕ, List, take, drop, length, ◌-◌, ap, ap₂, ◌∙◌}
use Rattle.std.proofs.lemmas.List.{take_rest}
use Rattle.std.specs.List.{starts_with}
use Rattle.std.specs.Str.{bytes_eq}
use Rattle.typed_path.specs.declared.scan.separators.Separators.{Separators}
use Rattle.typed_path.specs.components.{body, kinds, later_body, parts, texts}
use Rattle.typed_path.specs.order.{kinds_cmp}
use Rattle.typed_path.proofs.lemmas.order.SharedNames.{behind-shared, begins-shared}
use Rattle.typed_path.proofs.scan.cut.texts_behind.Goals as goal

-- what is read behind blanks that are passed over
later : (s : Separators) (n : ℕ) (t rest : List ℕ) → ((at : ℕ) → parts (body s 0 rest) ≡ parts (later_body s at (take (length t - n) (drop n t)))) → parts (body s 0 rest) ≡ parts (later_body s n (drop n t))
later s n t rest same = same n ∙ ap (λ v. parts (later_body s n v)) (take_rest t n)

pub returns-clause-order : goal.returns-clause-order
returns-clause-order c =
    let s = c.args.separators in
    let t = c.args.text.now in
    let u = c.args.other.now in
    let n = c.last_start-start.result in
    let some : 0 < n = search rules in
    ap₂ (λ ps qs. kinds_cmp (kinds ps) (kinds qs)) (later s n t c.behind_blanks.result.now c.behind_blanks.ensures.same) (later s n u c.behind_blanks-2.result.now c.behind_blanks-2.ensures.same)
    ∙ behind-shared s t u c.args.shared n (c.requires, c.last_start-start.ensures.last, c.last_start-start.ensures.within) some

pub returns-clause-begins : goal.returns-clause-begins
returns-clause-begins c =
    let s = c.args.separators in
    let t = c.args.text.now in
    let u = c.args.other.now in
    let n = c.last_start-start.result in
    let some : 0 < n = search rules in
    ap₂ (λ ps qs. starts_with bytes_eq (texts ps) (texts qs)) (later s n t c.behind_blanks.result.now c.behind_blanks.ensures.same) (later s n u c.behind_blanks-2.result.now c.behind_blanks-2.ensures.same)
    ∙ begins-shared s t u c.args.shared n (c.requires, c.last_start-start.ensures.last, c.last_start-start.ensures.within) some
