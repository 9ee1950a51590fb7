use Rattle.std.proofs.Common.{◌≡◌, ◌≢◌, ℕ, List, ◌∷◌, ◌++◌, ap, sym, refl, ◌∙◌, Option, Result, IfOk, codes}
use Rattle.typed_path.specs.components.{Dialect, unix, windows}
use Rattle.typed_path.specs.script.{tab, fields_of, reply, reply_line, bare_reply, reply_fields, dialect_name, AnswersFirst, command_name, texts_reply}
use Rattle.typed_path.specs.declared.script.lines.Command.{Command}
use Rattle.typed_path.proofs.lemmas.script.Lines.{named_reply, no_command, no_bare_command, no_encoding, command_is_field, dialect_is_field, fields-behind, lacks-first, put_alike, put_behind}
use Rattle.typed_path.proofs.script.lines.answer_line.Goals as goal

-- what is given for a line without a command is given for the line
bare : {A E : Type 0} (r : Result A E) (left : A → Option (List ℕ)) (input old new : List ℕ) → ((command : Command) (rest : List ℕ) → input ≢ command_name command ++ tab ∷ rest)
    → IfOk r (λ a. AnswersFirst (λ line. reply_line (bare_reply (fields_of line))) input (left a) old new) → IfOk r (λ a. AnswersFirst reply input (left a) old new)
bare r left input old new none answered =
    put_alike r left reply _ old new input
    (λ line lines e. sym (ap reply_line (no_command line (λ command. lacks-first (command_name command) input line lines e (none command)))))
    answered

pub returns-in-Some-text_behind : goal.returns-in-Some-text_behind
returns-in-Some-text_behind c =
    bare c.answer_derive.result _ c.args.input.now _ _ c.in_default.ensures
    (put_behind c.answer_derive.result _ (λ line. reply_line (bare_reply (fields_of line))) _ _ _ c.args.input.now (codes "derive") c.in-Some-text_behind.texts.now c.in-Some-text_behind.ensures refl
    (λ line lines e. sym (ap (λ fields. reply_line (bare_reply fields)) (fields-behind (codes "derive") line refl)))
    c.answer_derive.ensures)

pub returns-in-None : goal.returns-in-None
returns-in-None c =
    bare c.answer_bad_line.result _ c.args.input.now _ _ c.in_default.ensures
    (put_alike c.answer_bad_line.result _ (λ line. reply_line (bare_reply (fields_of line))) _ _ _ c.args.input.now
    (λ line lines e. sym (ap reply_line (no_bare_command line (lacks-first (codes "derive") c.args.input.now line lines e c.in-None.ensures))))
    c.answer_bad_line.ensures)

-- what is given for the texts behind a command and a dialect is given for the line
named : {A E : Type 0} (r : Result A E) (left : A → Option (List ℕ)) (command : Command) (d : Dialect) (input rest texts old new : List ℕ)
    → input ≡ command_name command ++ tab ∷ rest → rest ≡ dialect_name d ++ tab ∷ texts
    → IfOk r (λ a. AnswersFirst (λ line. reply_line (texts_reply d (command_name command) (fields_of line))) texts (left a) old new) → IfOk r (λ a. AnswersFirst reply input (left a) old new)
named r left command d input rest texts old new begins behind answered =
    let name = command_name command in
    put_behind r left reply _ old new input name rest begins (command_is_field command).0
    (λ line lines e. sym (ap (λ fields. reply_line (reply_fields fields)) (fields-behind name line (command_is_field command).1)))
    (put_behind r left (λ texts. reply_line (reply_fields (name ∷ fields_of texts))) _ old new rest (dialect_name d) texts behind (dialect_is_field d).0
    (λ line lines e. sym (ap (λ fields. reply_line (reply_fields (name ∷ fields))) (fields-behind (dialect_name d) line (dialect_is_field d).1) ∙ ap reply_line (named_reply command d (fields_of line))))
    answered)

pub returns-in-Some-text_behind-2 : goal.returns-in-Some-text_behind-2
returns-in-Some-text_behind-2 c =
    named c.answer_texts.result _ c.in-Some.command unix c.args.input.now c.in-Some.rest.now c.in-Some-text_behind-2.texts.now _ _ c.in-Some.ensures c.in-Some-text_behind-2.ensures
    c.answer_texts.ensures

pub returns-in-Some-text_behind-3 : goal.returns-in-Some-text_behind-3
returns-in-Some-text_behind-3 c =
    named c.answer_texts-in-Some-text_behind-3.result _ c.in-Some.command windows c.args.input.now c.in-Some.rest.now c.in-Some-text_behind-3.texts.now _ _ c.in-Some.ensures c.in-Some-text_behind-3.ensures
    c.answer_texts-in-Some-text_behind-3.ensures

pub returns : goal.returns
returns c =
    let name = command_name c.in-Some.command in
    let input = c.args.input.now in
    let rest = c.in-Some.rest.now in
    put_behind c.answer_bad_line-2.result _ reply _ _ _ input name rest c.in-Some.ensures (command_is_field c.in-Some.command).0
    (λ line lines e. sym (ap (λ fields. reply_line (reply_fields fields)) (fields-behind name line (command_is_field c.in-Some.command).1)
    ∙ ap reply_line (no_encoding c.in-Some.command line (lacks-first (codes "unix") rest line lines e c.in_default-text_behind.ensures) (lacks-first (codes "windows") rest line lines e c.in_default-text_behind-2.ensures))))
    c.answer_bad_line-2.ensures
