use Rattle.std.proofs.Common.{◌≡◌, true, length, sym, ap, ◌∙◌, arith}
use Rattle.typed_path.specs.components.{windows}
use Rattle.typed_path.specs.components.{kinds, parts}
use Rattle.typed_path.specs.components.{parts_of}
use Rattle.typed_path.specs.views.PathViews.{path_bytes}
use Rattle.typed_path.specs.queries.{is_simple}
use Rattle.typed_path.proofs.lemmas.queries.Simplified.{simple_long}
use Rattle.typed_path.proofs.windows.simplified.«Path+WindowsEncoding».simplified.Goals as goal

pub split_at-requires : goal.split_at-requires
split_at-requires c =
    let t = path_bytes c.args.self in
    let simple : is_simple (kinds (parts_of windows t)) ≡ true =
    ap (λ cs. is_simple (kinds (parts cs))) (sym c.components.ensures.items) ∙ sym c.is_simple.ensures ∙ c.if-is_simple.true in
    omega (arith, simple_long t simple, ap length c.as_bytes-bytes.ensures)
