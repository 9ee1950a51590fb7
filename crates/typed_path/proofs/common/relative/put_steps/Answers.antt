use Rattle.std.proofs.Common.{◌≡◌, ◌-◌, ◌++◌, length, drop, reverse, ap, ◌∙◌, arith}
use Rattle.std.proofs.lemmas.List.{length-reverse}
use Rattle.std.proofs.lemmas.Result.{on_ok_weaker}
use Rattle.typed_path.specs.components.{kinds, parts_of}
use Rattle.typed_path.specs.places.{dots, kept_names, rows_of}
use Rattle.typed_path.proofs.lemmas.places.Reached.{rows-room}
use Rattle.typed_path.proofs.lemmas.places.TakenNames.{rows-steps, unended-size}
use Rattle.typed_path.proofs.common.relative.put_steps.Goals as goal

pub returns-in_err-put_names-clause-succeeds : goal.returns-in_err-put_names-clause-succeeds
returns-in_err-put_names-clause-succeeds g c = grind (arith, rows-room)

pub returns-in_err-put_parents-clause-succeeds : goal.returns-in_err-put_parents-clause-succeeds
returns-in_err-put_parents-clause-succeeds g c = grind (arith, length-reverse, rows-room)

pub returns-clause-succeeds : goal.returns-clause-succeeds
returns-clause-succeeds g c = grind (arith, unended-size, length-reverse, rows-room)

pub returns-clause-ok : goal.returns-clause-ok
returns-clause-ok g c =
    let d = g.T.Encoding.dialect in
    let s = c.bare_separators-separators.result in
    let names = kept_names (kinds (parts_of d c.args.path.now)) in
    let turned : reverse c.put_names.new.text.items ≡ rows_of s (drop (length names - c.args.steps.down) names) =
    c.in_ok-put_names.ensures.ok ∙ ap (λ ns. rows_of s (drop (length ns - c.args.steps.down) ns)) c.body_of.ensures.names in
    let all : c.reverse.new.self.items ≡ rows_of s (dots c.args.steps.up) ++ rows_of s (drop (length names - c.args.steps.down) names) =
    c.reverse.ensures.items ∙ c.in_ok-put_parents.ensures.ok ∙ ap (λ bs. rows_of s (dots c.args.steps.up) ++ bs) turned in
    on_ok_weaker c.put_apart.result
    (λ e. rows-steps d c.args.steps.up (drop (length names - c.args.steps.down) names) s c.reverse.new.self.items c.drop_separator.new.text.items c.put_apart.new.text.items c.bare_separators-separators.ensures all
    c.drop_separator.ensures.named c.drop_separator.ensures.alone e)
    c.put_apart.ensures.ok
