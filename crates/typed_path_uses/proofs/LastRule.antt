-- Of the rules that fit, the last decides.
use Rattle.std.proofs.Common.{◌≡◌, List, [], ◌∷◌, ◌++◌, Bool, false, not, cond, fold, refl, ap, ◌∙◌}
use Rattle.std.specs.List.{filter}
use Rattle.std.proofs.lemmas.List.Elements.{filter-append}
use Rattle.typed_path_uses.specs.declared.ignore.Rule.{Rule}
use Rattle.typed_path_uses.specs.Ignore.{IsLastThatFits}
use Rattle.typed_path_uses.proofs.NoneKept.{none-kept}

-- the last of a list decides, whatever was decided before
last-decides : (so_far : Bool) (rs : List Rule) (rule : Rule) → fold (λ earlier r. not r.is_back) so_far (rs ++ rule ∷ []) ≡ not rule.is_back
last-decides so_far [] rule = refl
last-decides so_far (r ∷ rs) rule = last-decides (not r.is_back) rs rule

pub fitting-decides : (p : Rule → Bool) (rs : List Rule) (rule : Rule) → IsLastThatFits p rs rule → fold (λ earlier r. not r.is_back) false (filter p rs) ≡ not rule.is_back
fitting-decides p rs rule is =
    ap (λ all. fold (λ earlier r. not r.is_back) false (filter p all)) is.stands
    ∙ ap (fold (λ earlier r. not r.is_back) false) (filter-append p is.earlier (rule ∷ is.later) ∙ ap (λ b. filter p is.earlier ++ cond b (rule ∷ filter p is.later) (filter p is.later)) is.does_fit ∙ ap (λ kept. filter p is.earlier ++ rule ∷ kept) (none-kept p is.later is.none_later))
    ∙ last-decides false (filter p is.earlier) rule
