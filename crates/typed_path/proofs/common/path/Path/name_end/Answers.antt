use Rattle.std.proofs.Common.{sym, ap, ◌∙◌, arith, Some, ◌+◌}
use Rattle.typed_path.specs.scan.{last_of}
use Rattle.typed_path.specs.views.PathViews.{path_bytes}
use Rattle.typed_path.proofs.lemmas.queries.Parents.{placed_name}
use Rattle.typed_path.proofs.common.path.Path.name_end.Goals as goal

pub overflow_add-result : goal.overflow_add-result
overflow_add-result g c =
    let name = placed_name g.T.Encoding.dialect (path_bytes c.args.self) c.in_ok-last.last (c.in_ok-last.ensures ∙ ap last_of c.components.ensures.items) (sym c.if-not-is_normal.ensures) in
    omega (arith, c.len.ensures, name.2)

pub returns-clause-end : goal.returns-clause-end
returns-clause-end g c =
    let name = placed_name g.T.Encoding.dialect (path_bytes c.args.self) c.in_ok-last.last (c.in_ok-last.ensures ∙ ap last_of c.components.ensures.items) (sym c.if-not-is_normal.ensures) in
    ap (λ n. Some (c.in_ok-last.last.start + n)) c.len.ensures ∙ sym name.1

pub returns-clause-within : goal.returns-clause-within
returns-clause-within g c =
    let name = placed_name g.T.Encoding.dialect (path_bytes c.args.self) c.in_ok-last.last (c.in_ok-last.ensures ∙ ap last_of c.components.ensures.items) (sym c.if-not-is_normal.ensures) in
    omega (arith, c.len.ensures, name.2)
