use Rattle.std.proofs.Common.{◌+◌, take, sym, ap, ◌∙◌, length-take-le}
use Rattle.typed_path.specs.scan.{body_from, is_clean, end_from}
use Rattle.typed_path.proofs.lemmas.scan.LastComponent.{end_from-trimmed}
use Rattle.typed_path.proofs.scan.cursor.Body.last_end.Goals as goal

pub returns : goal.returns
returns c =
    let body = c.args.self.now in
    let kept = take c.trim_blanks.result c.as_bytes.result.now in
    let clean = ap (is_clean body.begin body.separators) c.as_bytes.ensures ∙ body.starts_clean in
    let trimmed = end_from-trimmed body.begin body.separators body.from kept c.trim_blanks.ensures.trimmed (c.trim_blanks.ensures.clean body.begin ∙ clean) in
    let whole = ap (end_from body.from) (c.trim_blanks.ensures.same body.begin body.from ∙ ap (body_from body.begin body.separators body.from) c.as_bytes.ensures) in
    ap (λ n. body.from + n) (sym (length-take-le c.trim_blanks.result c.as_bytes.result.now c.trim_blanks.ensures.within)) ∙ sym trimmed ∙ whole
