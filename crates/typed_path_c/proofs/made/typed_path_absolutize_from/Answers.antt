use Rattle.std.proofs.Common.{length, ap, arith}
use Rattle.typed_path.specs.typed.{typed_dialect}
use Rattle.typed_path.specs.views.TypedViews.{typed_bytes, owned_bytes}
use Rattle.typed_path_c.proofs.Crossed.{absolute_fits}
use Rattle.typed_path_c.proofs.made.typed_path_absolutize_from.Goals as goal

pub returns-in-Some-Some-clause-fits : goal.returns-in-Some-Some-clause-fits
returns-in-Some-Some-clause-fits c room small =
    absolute_fits owned_bytes c.absolutize_from.result (typed_dialect c.in-Some-Some.path) (typed_dialect c.in-Some-Some.directory) (typed_bytes c.in-Some-Some.directory)
    (typed_bytes c.in-Some-Some.path) c.args.out.now _ _ _ _ c.absolutize_from.ensures.absolute.0 c.put_made.ensures.put
    (omega (arith, room, ap length c.in-Some-Some.ensures.bytes, ap length c.in-Some-Some.ensures'.bytes)) small
