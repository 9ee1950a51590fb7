use Rattle.typed_path.specs.order.{path_cmp_total}
use Rattle.typed_path.proofs.laws.order_is_total.Goals as goal

pub returns : goal.returns
returns g c = path_cmp_total g.d
