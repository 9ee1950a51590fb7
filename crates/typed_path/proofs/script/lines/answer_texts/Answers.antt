use Rattle.std.proofs.Common.{ℕ, List, ◌∷◌, ap, sym, ◌∙◌}
use Rattle.typed_path.specs.views.SpanViews.{span_bytes}
use Rattle.typed_path.specs.script.{fields_of, reply_line, command_name, texts_reply}
use Rattle.typed_path.proofs.lemmas.script.Lines.{fields-behind, ended_so, ends_line, put_behind}
use Rattle.typed_path.proofs.script.lines.answer_texts.Goals as goal

pub returns-in_ok-put_path_reply-in-Some-default-LineFeed-default : goal.returns-in_ok-put_path_reply-in-Some-default-LineFeed-default
returns-in_ok-put_path_reply-in-Some-default-LineFeed-default g c =
    let cut = c.in-Some-default-LineFeed-default in
    let given : List (List ℕ) → List ℕ = λ texts. reply_line (texts_reply g.T.Encoding.dialect (command_name c.args.command) texts) in
    ends_line (λ texts. given (fields_of texts)) c.args.input.now (span_bytes cut.path) cut.left.now _ _ _ (ended_so _ _ _ _ _ cut.field-0-1-is cut.ensures.text) cut.ensures.line c.in_ok-put_path_reply-in-Some-default-LineFeed-default.ensures (sym (ap given cut.ensures.field))

pub returns-in-Some-default-Tab-default : goal.returns-in-Some-default-Tab-default
returns-in-Some-default-Tab-default g c =
    let cut = c.in-Some-default-Tab-default in
    let given : List (List ℕ) → List ℕ = λ texts. reply_line (texts_reply g.T.Encoding.dialect (command_name c.args.command) texts) in
    put_behind c.answer_pair.result _ (λ texts. given (fields_of texts)) _ _ _ c.args.input.now (span_bytes cut.first) cut.rest.now (ended_so _ _ _ _ _ cut.field-0-1-is cut.ensures.text) cut.ensures.line
    (λ line lines e. ap (λ first. given (first ∷ fields_of line)) c.as_bytes.ensures ∙ sym (ap given (fields-behind (span_bytes cut.first) line cut.ensures.field)))
    c.answer_pair.ensures
