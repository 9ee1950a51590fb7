-- What is left of a rule and of a path gives the whole answer.
use Rattle.std.proofs.Common.{◌≡◌, List, [], ◌∷◌, Bool, true, false, not, refl, sym, ap, ◌∙◌, Option, Some, None, option_map, is_some}
use Rattle.typed_path.specs.declared.scan.step.Piece.{Piece}
use Rattle.typed_path.specs.components.{Part, Placed, parts, kinds}
use Rattle.typed_path.specs.scan.{first_part}
use Rattle.typed_path.specs.views.PieceViews.{part_of}
use Rattle.typed_path_uses.specs.Ignore.{fits}

end-fits : (rest : List Placed) (next : Option Piece) (b : Bool) → option_map part_of next ≡ first_part rest → is_some next ≡ not b → b ≡ fits [] (kinds (parts rest))
end-fits [] None true taken is = refl
end-fits [] None false taken is = cc
end-fits [] (Some p) b taken is = cc
end-fits (c ∷ cs) None b taken is = cc
end-fits (c ∷ cs) (Some p) true taken is = cc
end-fits (c ∷ cs) (Some p) false taken is = refl

pub end-answer : (next : Option Piece) (wanted : List Part) (rest : List Placed) (b whole : Bool) → wanted ≡ [] → option_map part_of next ≡ first_part rest → is_some next ≡ not b → fits (kinds wanted) (kinds (parts rest)) ≡ whole → b ≡ whole
end-answer next wanted rest b whole none taken is kept = end-fits rest next b taken is ∙ ap (λ ps. fits (kinds ps) (kinds (parts rest))) (sym none) ∙ kept
