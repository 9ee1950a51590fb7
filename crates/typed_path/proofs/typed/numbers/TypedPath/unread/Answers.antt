use Rattle.std.proofs.Common.{length, sym, ap, subst}
use Rattle.typed_path.specs.components.{comps}
use Rattle.typed_path.specs.scan.{IsReading}
use Rattle.typed_path.specs.typed.{typed_dialect}
use Rattle.typed_path.specs.views.TypedViews.{typed_bytes}
use Rattle.typed_path.proofs.lemmas.scan.Unread.{whole_unread}
use Rattle.typed_path.proofs.typed.numbers.TypedPath.unread.Goals as goal

pub returns-clause-items : goal.returns-clause-items
returns-clause-items c =
    let d = typed_dialect c.args.self in
    let path = typed_bytes c.args.self in
    subst (λ n. IsReading d path (record { from = 0; to = n; stage = 0 }) (comps d path)) (ap length (sym c.as_bytes.ensures)) (whole_unread d path)
