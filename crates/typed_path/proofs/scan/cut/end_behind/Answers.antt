use Rattle.std.proofs.Common.{add_assoc, ◌≡◌, ◌<◌, rules, ◌+◌, ◌++◌, length, drop, ap, sym, ◌∙◌, drop-drop, take-append-drop}
use Rattle.std.proofs.lemmas.List.{take_rest}
use Rattle.typed_path.specs.components.{body, later_body}
use Rattle.typed_path.proofs.scan.cut.end_behind.Goals as goal

pub returns-clause-items : goal.returns-clause-items
returns-clause-items c at =
    let s = c.args.separators in
    let text = c.args.text.now in
    let base = c.args.base.now in
    let m = length base in
    let k = c.skip_blanks.result in
    let some : 0 < m = search rules in
    let begins : text ≡ base ++ drop m text = sym (take-append-drop m text) ∙ ap (λ front. front ++ drop m text) c.requires.begins in
    ap (body s at) (begins ∙ ap (λ r. base ++ r) (sym (take_rest text m)))
    ∙ c.is_border.ensures c.if-not-is_border.false some at
    ∙ ap (λ cs. body s at base ++ cs) (c.skip_blanks.ensures.same (at + m))
    ∙ ap (λ r. body s at base ++ later_body s (at + m + k) (drop k r)) (take_rest text m)
    ∙ ap (λ r. body s at base ++ later_body s (at + m + k) r) (drop-drop k m text)
    ∙ ap (λ p. body s at base ++ later_body s p (drop (m + k) text)) (add_assoc at m k)
