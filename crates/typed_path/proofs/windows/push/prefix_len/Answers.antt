use Rattle.std.proofs.Common.{sym}
use Rattle.typed_path.specs.components.{windows}
use Rattle.typed_path.specs.views.PieceViews.{found_of}
use Rattle.typed_path.proofs.lemmas.components.Prefixes.{prefix-fits}
use Rattle.typed_path.proofs.windows.push.prefix_len.Goals as goal

pub returns-in-Some-clause-within : goal.returns-in-Some-clause-within
returns-in-Some-clause-within c = (prefix-fits windows c.args.path.now (found_of c.in-Some.found) (sym c.in-Some.ensures)).fits
