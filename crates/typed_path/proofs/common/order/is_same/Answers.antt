use Rattle.std.proofs.Common.{◌≡◌, sym, ap, ◌∙◌}
use Rattle.std.proofs.lemmas.Cmp.{tied_itself}
use Rattle.std.specs.Cmp.Lexicographic.{bytes_decides}
use Rattle.std.specs.Ordering.{is_eq}
use Rattle.typed_path.specs.order.{path_cmp, path_cmp_total}
use Rattle.typed_path.proofs.common.order.is_same.Goals as goal

pub returns-then-eq : goal.returns-then-eq
returns-then-eq g c =
    let same : c.args.path.now ≡ c.args.other.now = (bytes_decides c.args.path.now c.args.other.now).0 (sym c.eq.ensures ∙ c.if-eq.true) in
    sym (ap is_eq (ap (path_cmp g.T.Encoding.dialect c.args.path.now) (sym same) ∙ tied_itself (path_cmp_total g.T.Encoding.dialect) c.args.path.now))
