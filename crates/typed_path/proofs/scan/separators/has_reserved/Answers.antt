use Rattle.std.proofs.Common.{◌≡◌, sym, subst, ◌∙◌}
use Rattle.std.specs.List.{list_any, slice_split}
use Rattle.typed_path.specs.components.{is_separator, dialect_of}
use Rattle.typed_path.specs.queries.{is_reserved}
use Rattle.typed_path.specs.declared.scan.separators.Separators.{Separators}
use Rattle.typed_path.proofs.lemmas.changes.ValidPaths.{any-pieces}
use Rattle.typed_path.proofs.scan.separators.has_reserved.Goals as goal

pub returns-then-is_same : goal.returns-then-is_same
returns-then-is_same c =
    let text = c.args.text.now in
    let P : Separators → Type 0 = λ s. c.has_device.result ≡ list_any (is_reserved (dialect_of s)) (slice_split (is_separator s) text) in
    subst P (sym (c.is_same.ensures c.if-is_same.true)) (c.has_device.ensures ∙ sym (any-pieces text))
