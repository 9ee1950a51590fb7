use Rattle.typed_path.proofs.lemmas.promises.Shared.{longest}
use Rattle.typed_path.proofs.laws.common_ancestor_is_longest.Goals as goal

pub returns-clause-some : goal.returns-clause-some
returns-clause-some g c common is = longest g.d c.args.path.now c.args.other.now common is
