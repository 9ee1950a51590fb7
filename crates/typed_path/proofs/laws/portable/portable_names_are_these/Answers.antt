use Rattle.typed_path.proofs.lemmas.queries.Portable.{portable_name_is}
use Rattle.typed_path.proofs.laws.portable.portable_names_are_these.Goals as goal

pub returns : goal.returns
returns c = portable_name_is c.args.name.now
