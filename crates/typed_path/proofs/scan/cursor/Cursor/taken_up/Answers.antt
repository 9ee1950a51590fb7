use Rattle.std.proofs.Common.{◌≤◌, length, slice_range, sym, ap, ◌∙◌, arith}
use Rattle.typed_path.specs.declared.scan.cursor.Begin.TheVariants.{Body}
use Rattle.typed_path.specs.scan.{body_from, pending}
use Rattle.typed_path.specs.scan.Unread.{unread_by}
use Rattle.typed_path.specs.views.CursorViews.{start_left, prefix_left}
use Rattle.typed_path.proofs.lemmas.scan.Unread.{whole_left}
use Rattle.typed_path.proofs.scan.cursor.Cursor.taken_up.Goals as goal

pub returns-else-unread-from-clause-items : goal.returns-else-unread-from-clause-items
returns-else-unread-from-clause-items c =
    λ d looked.
    let text = c.args.text.now in
    let u = c.args.unread in
    let o = c.args.prefix in
    let fits : pending o ≤ u.to = omega (arith, c.pending-from.ensures, c.if-unread-from.false) in
    let in_range : u.to ≤ length text = omega (arith, c.if-text-unread.false) in
    ap (λ n. prefix_left o (start_left o n) (slice_range text (start_left o n) u.to) (body_from Body c.args.separators n (slice_range text n u.to))) c.pending-from.ensures
    ∙ whole_left d text u.to c.args.separators o looked.0 (looked.1 c.in-0.is) fits in_range
    ∙ ap (unread_by d text u.from u.to) (sym c.in-0.is)
