use Rattle.std.proofs.Common.{◌+◌, ◌-◌, length, Some, option_map, option_and_then, unwrap_or, sym, ap, ◌∙◌, arith, subst, refl}
use Rattle.typed_path.specs.components.{end_of}
use Rattle.typed_path.specs.queries.{extension_of, name_of}
use Rattle.typed_path.proofs.lemmas.queries.Parents.{last-within}
use Rattle.typed_path.specs.views.UnreadViews.{placed_of}
use Rattle.typed_path_c.specs.Answers.{done}
use Rattle.typed_path_c.specs.Parts.{IsLent}
use Rattle.typed_path_c.proofs.parts.lend_extension.Goals as goal

pub overflow_add-end : goal.overflow_add-end
overflow_add-end g c = omega (arith, c.len.ensures, last-within g.T.Encoding.dialect c.args.path.now (placed_of c.in-Some.last) (sym c.in-Some.ensures), c.well_formed.0.1)

pub returns : goal.returns
returns g c =
    let last = placed_of c.in-Some.last in
    let found = c.in-Some-extension.extension.now in
    let place = ap (λ n. Some (last.start + n - length found, length found)) c.len.ensures
    ∙ ap (option_map (λ e. (end_of last - length e, length e))) c.in-Some-extension.ensures
    ∙ ap (λ o. option_map (λ e. (unwrap_or (option_map end_of o) 0 - length e, length e)) (option_and_then extension_of (option_and_then (λ l. name_of l.part.kind) o))) c.in-Some.ensures in
    subst (λ p. IsLent p c.args.span.now (record { start = last.start + c.len.result - length found; length = length found }) done) place (refl, refl, refl)
