use Rattle.std.proofs.Common.{rules, ◌≡◌, ◌<◌, ◌+◌, ◌-◌, ℕ, List, length, take, drop, sym, ap, ap₂, ◌∙◌, drop-drop}
use Rattle.std.proofs.lemmas.List.{take_rest}
use Rattle.typed_path.specs.declared.scan.separators.Separators.{Separators}
use Rattle.typed_path.specs.components.{later_body}
use Rattle.typed_path.specs.order.{left_cmp}
use Rattle.typed_path.proofs.lemmas.order.SharedNames.{behind-shared}
use Rattle.typed_path.proofs.scan.cut.bodies_behind.Goals as goal

-- what is left behind blanks that are passed over
later : (s : Separators) (n k : ℕ) (v : List ℕ)
    → ((at : ℕ) → later_body s at (take (length v - n) (drop n v)) ≡ later_body s (at + k) (drop k (take (length v - n) (drop n v))))
    → later_body s (n + k) (drop (n + k) v) ≡ later_body s n (drop n v)
later s n k v same =
    sym (ap (later_body s n) (sym (take_rest v n)) ∙ same n ∙ ap (λ r. later_body s (n + k) (drop k r)) (take_rest v n) ∙ ap (later_body s (n + k)) (drop-drop k n v))

pub returns : goal.returns
returns c =
    let s = c.args.separators in
    let t = c.args.text.now in
    let u = c.args.other.now in
    let n = c.last_start-start.result in
    let some : 0 < n = search rules in
    ap₂ left_cmp (c.inside.ensures.items ∙ later s n c.skip_blanks.result t c.skip_blanks.ensures.same) (c.inside-2.ensures.items ∙ later s n c.skip_blanks-2.result u c.skip_blanks-2.ensures.same)
    ∙ behind-shared s t u c.args.shared n (c.requires, c.last_start-start.ensures.last, c.last_start-start.ensures.within) some
