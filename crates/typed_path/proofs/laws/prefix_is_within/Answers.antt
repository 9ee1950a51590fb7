use Rattle.typed_path.proofs.lemmas.components.Prefixes.{prefix-fits}
use Rattle.typed_path.proofs.laws.prefix_is_within.Goals as goal

pub returns : goal.returns
returns g c = record {
  some_bytes = λ f is. (prefix-fits g.d c.args.path.now f is).filled;
  fits = λ f is. (prefix-fits g.d c.args.path.now f is).fits;
}
