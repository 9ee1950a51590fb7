use Rattle.std.proofs.Common.{◌≡◌, true, slice_range, sym, subst}
use Rattle.typed_path.specs.components.{windows}
use Rattle.typed_path.specs.changes.{spells_anew}
use Rattle.typed_path.proofs.lemmas.changes.MergedInPlace.{spelled-prefixed_list}
use Rattle.typed_path.proofs.windows.push.merge_at.Goals as goal

pub spelled_anew-requires-clause-own : goal.spelled_anew-requires-clause-own
spelled_anew-requires-clause-own c =
    let base = slice_range c.deref.result.now c.args.start c.args.kept in
    spelled-prefixed_list base (subst (λ t. spells_anew windows (slice_range t c.args.start c.args.kept) ≡ true) (sym c.deref.ensures.value) c.requires.marked)
