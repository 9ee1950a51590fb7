use Rattle.std.proofs.Common.{ℕ, List, ◌∷◌, ap, sym, ◌∙◌}
use Rattle.typed_path.specs.views.SpanViews.{span_bytes}
use Rattle.typed_path.specs.script.{fields_of, reply_line, command_name, texts_reply}
use Rattle.typed_path.proofs.lemmas.script.Lines.{too_many, fields-behind, ended_so, ends_line, put_behind}
use Rattle.typed_path.proofs.script.lines.answer_pair.Goals as goal

pub returns-in_ok-put_pair_reply-in-Some-default-LineFeed-default : goal.returns-in_ok-put_pair_reply-in-Some-default-LineFeed-default
returns-in_ok-put_pair_reply-in-Some-default-LineFeed-default g c =
    let cut = c.in-Some-default-LineFeed-default in
    let given : List (List ℕ) → List ℕ = λ texts. reply_line (texts_reply g.T.Encoding.dialect (command_name c.args.command) (c.args.first.now ∷ texts)) in
    ends_line (λ texts. given (fields_of texts)) c.args.input.now (span_bytes cut.path) cut.left.now _ _ _ (ended_so _ _ _ _ _ cut.field-0-1-is cut.ensures.text) cut.ensures.line c.in_ok-put_pair_reply-in-Some-default-LineFeed-default.ensures (sym (ap given cut.ensures.field))

pub returns-in-Some-default-Tab-default : goal.returns-in-Some-default-Tab-default
returns-in-Some-default-Tab-default g c =
    let cut = c.in-Some-default-Tab-default in
    let d = g.T.Encoding.dialect in
    let command = command_name c.args.command in
    let given : List (List ℕ) → List ℕ = λ texts. reply_line (texts_reply d command (c.args.first.now ∷ texts)) in
    put_behind c.answer_bad_line.result _ (λ texts. given (fields_of texts)) _ _ _ c.args.input.now (span_bytes cut.field-0-0) cut.rest.now (ended_so _ _ _ _ _ cut.field-0-1-is cut.ensures.text) cut.ensures.line
    (λ line lines e. sym (ap given (fields-behind (span_bytes cut.field-0-0) line cut.ensures.field) ∙ ap reply_line (too_many d command c.args.first.now (span_bytes cut.field-0-0) line)))
    c.answer_bad_line.ensures
