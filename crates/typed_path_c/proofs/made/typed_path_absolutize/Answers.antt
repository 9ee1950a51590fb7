use Rattle.std.proofs.Common.{length, ap, arith}
use Rattle.typed_path.specs.components.{unix}
use Rattle.typed_path.specs.views.TypedViews.{typed_bytes, owned_bytes}
use Rattle.typed_path_c.proofs.Crossed.{absolute_fits}
use Rattle.typed_path_c.proofs.made.typed_path_absolutize.Goals as goal

pub returns-in-Some-clause-fits : goal.returns-in-Some-clause-fits
returns-in-Some-clause-fits c room small =
    absolute_fits owned_bytes c.absolutize.result _ unix c.new-directory.result.bytes.now (typed_bytes c.in-Some.path) c.args.out.now _ _ _ _ c.absolutize.ensures.absolute.0 c.put_made.ensures.put
    (omega (arith, room, ap length c.in-Some.ensures.bytes, ap length c.new-directory.ensures)) small
