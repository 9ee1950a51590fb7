use Rattle.std.proofs.Common.{◌≡◌, inr, refl, rules, Option, Some, None, IsSome}
use Rattle.typed_path.specs.components.{Found}
use Rattle.typed_path.specs.views.PieceViews.{found_of}
use Rattle.typed_path.proofs.lemmas.components.Cuts.{behind-count}
use Rattle.typed_path.proofs.windows.component.WindowsPrefixTryFromRefSliceU8.try_from.Goals as goal

here : (o : Option Found) (f : Found) → Some f ≡ o → IsSome o
here None f e = cc
here (Some g) f e = search rules

pub returns-then-found-text : goal.returns-then-found-text
returns-then-found-text c =
    inr (here _ _ c.in-Some.ensures, behind-count c.args.text.now (found_of c.in-Some.found) c.in-Some.ensures c.if-found-text.true, refl)
