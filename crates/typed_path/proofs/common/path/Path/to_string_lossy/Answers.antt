use Rattle.std.proofs.Common.{sym, ◌∙◌}
use Rattle.std.proofs.lemmas.Str.{utf8_lossy-IsUtf8}
use Rattle.typed_path.specs.views.PathViews.{path_bytes}
use Rattle.typed_path.proofs.common.path.Path.to_string_lossy.Goals as goal
use Rattle.typed_path.proofs.lemmas.texts.TextCuts.{text_of_bytes-some, text_of_bytes-is}

pub returns-in_err-replaced-in-None-clause-succeeds : goal.returns-in_err-replaced-in-None-clause-succeeds
returns-in_err-replaced-in-None-clause-succeeds g c = λ is. let e = c.in-None.ensures ∙ text_of_bytes-some (path_bytes c.args.self) is in cc

pub returns-in-Some-clause-text : goal.returns-in-Some-clause-text
returns-in-Some-clause-text g c =
    let is = text_of_bytes-is (path_bytes c.args.self) c.in-Some.text.now (sym c.in-Some.ensures) in
    sym is.1 ∙ sym (utf8_lossy-IsUtf8 (path_bytes c.args.self) is.0)

pub returns-in_ok-replaced-in-None-clause-lent : goal.returns-in_ok-replaced-in-None-clause-lent
returns-in_ok-replaced-in-None-clause-lent g c = λ is. let e = c.in-None.ensures ∙ text_of_bytes-some (path_bytes c.args.self) is in cc
