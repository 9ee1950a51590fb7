use Rattle.std.proofs.Common.{not, sym, ap, ◌∙◌}
use Rattle.std.specs.List.{list_any}
use Rattle.typed_path.specs.components.{dialect_of}
use Rattle.typed_path.specs.queries.{is_reserved}
use Rattle.typed_path.proofs.lemmas.components.Segments.{pieces}
use Rattle.typed_path.proofs.lemmas.queries.ValidNames.{valid-found, reserved-unix}
use Rattle.typed_path.proofs.scan.separators.has_valid_names.Goals as goal

pub returns-then-has_stray : goal.returns-then-has_stray
returns-then-has_stray c at = sym (valid-found c.args.separators at c.args.text.now _ _ c.has_stray.ensures c.if-has_stray.true)

pub returns-in-Slash : goal.returns-in-Slash
returns-in-Slash c at =
    let s = c.args.separators in
    let t = c.args.text.now in
    sym (valid-found s at t _ _ c.has_stray.ensures c.if-has_stray.false
    ∙ ap (λ r. not (list_any (is_reserved (dialect_of r)) (pieces s t))) c.in-Slash.is ∙ ap not (reserved-unix (pieces s t)))

pub returns-in-Backslash : goal.returns-in-Backslash
returns-in-Backslash c at =
    sym (valid-found c.args.separators at c.args.text.now _ _ c.has_stray.ensures c.if-has_stray.false ∙ ap not (sym c.has_reserved.ensures))
