use Rattle.std.proofs.Common.{length, ap, arith}
use Rattle.typed_path.specs.views.TypedViews.{typed_bytes}
use Rattle.typed_path_c.proofs.Crossed.{leads_fit}
use Rattle.typed_path_c.proofs.made.typed_path_relative_to.Goals as goal

pub returns-in-Some-clause-fits : goal.returns-in-Some-clause-fits
returns-in-Some-clause-fits c room small =
    leads_fit _ (typed_bytes c.in-Some.path) c.args.base.now c.args.out.now _ _ _ _ (c.put_found.ensures.put _ c.relative_to.ensures.leads.0 c.relative_to.ensures.leads.1)
    (omega (arith, room, ap length c.in-Some.ensures.bytes)) small
