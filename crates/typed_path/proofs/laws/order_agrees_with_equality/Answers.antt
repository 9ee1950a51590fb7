use Rattle.typed_path.specs.components.{kinds, parts_of}
use Rattle.typed_path.proofs.lemmas.order.Comparisons.{IsSame-path_cmp, kinds_cmp-is_eq}
use Rattle.typed_path.proofs.laws.order_agrees_with_equality.Goals as goal

pub returns-clause-test : goal.returns-clause-test
returns-clause-test g c = kinds_cmp-is_eq (kinds (parts_of g.d c.args.path.now)) (kinds (parts_of g.d c.args.other.now))

pub returns-clause-order : goal.returns-clause-order
returns-clause-order g c = IsSame-path_cmp g.d c.args.path.now c.args.other.now
