use Rattle.std.proofs.Common.{◌≡◌, List, [], ◌∷◌, Bool, true, false, if◌then◌else◌, Some, None, refl, ap, ◌∙◌}
use Rattle.std.proofs.lemmas.Option.{same_Some}
use Rattle.typed_path.specs.components.{Part, parts}
use Rattle.typed_path.specs.queries.{is_prefix, prefix_part_in, prefix_among}
use Rattle.typed_path.proofs.windows.component.«Reading+WindowsEncoding+Values».prefix.Goals as goal

-- a prefix that is first is the prefix that it is
first_again : (p : Part) (ps : List Part) → Some p ≡ prefix_among ps → prefix_part_in p ≡ prefix_among ps
first_again p [] e = cc
first_again p (q ∷ qs) e = by (is_prefix q.kind) refl e
  where
    by : (b : Bool) → is_prefix q.kind ≡ b → Some p ≡ (if b then Some q else None) → prefix_part_in p ≡ prefix_part_in q
    by true is e = ap prefix_part_in (same_Some _ _ e)
    by false is e = cc

pub returns : goal.returns
returns c =
    c.prefix.ensures ∙ ap prefix_part_in c.from_piece.ensures ∙ first_again _ _ c.in_ok-prefix_piece.ensures
    ∙ ap (λ cs. prefix_among (parts cs)) c.cursor.ensures.items
