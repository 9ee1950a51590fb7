use Rattle.std.proofs.Common.{◌≡◌, rules, drop, refl, ◌∙◌}
use Rattle.typed_path.specs.changes.{raw_length}
use Rattle.typed_path.specs.components.{body, windows, dialect_of, kinds, parts, prefix_of}
use Rattle.typed_path.specs.queries.{is_valid}
use Rattle.typed_path.proofs.lemmas.queries.ValidNames.{valid-windows}
use Rattle.typed_path.proofs.windows.encoding.WindowsEncodingEncoding.valid_names.Goals as goal

pub returns : goal.returns
returns c =
    let t = c.args.path.now in
    let n = raw_length (prefix_of windows t) in
    let behind : c.split_at.result.1.now ≡ drop n t = search rules in
    c.has_valid_names.ensures n
    ∙ (λ i. is_valid (dialect_of (c.of_windows.ensures i)) (kinds (parts (body (c.of_windows.ensures i) n (behind i)))))
    ∙ valid-windows t (prefix_of windows t) refl
