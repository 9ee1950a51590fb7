-- A component of a rule beside the first that a path has left.
use Rattle.std.proofs.Common.{◌≡◌, List, [], ◌∷◌, Bool, false, ◌&&◌, drop, refl, sym, ap, ap₂, ◌∙◌, Some, None}
use Rattle.std.proofs.lemmas.Option.{same_Some}
use Rattle.typed_path.specs.components.{Kind, Part, Placed, parts, kinds}
use Rattle.typed_path.specs.scan.{first_part}
use Rattle.typed_path_uses.specs.Ignore.{fits_kind, fits}

pub fits-some : (k : Kind) (ks : List Kind) (before after : List Placed) (p : Part) (r : Bool) → Some p ≡ first_part before → after ≡ drop 1 before → r ≡ fits_kind k p.kind → fits (k ∷ ks) (kinds (parts before)) ≡ (r && fits ks (kinds (parts after)))
fits-some k ks [] after p r taken left is = cc
fits-some k ks (c ∷ cs) after p r taken left is = ap (λ x. fits_kind k x.kind && fits ks (kinds (parts cs))) (sym (same_Some _ _ taken)) ∙ ap₂ (λ b ds. b && fits ks (kinds (parts ds))) (sym is) (sym left)

-- nothing fits a path that has none left
pub fits-none : (k : Kind) (ks : List Kind) (before : List Placed) → None ≡ first_part before → fits (k ∷ ks) (kinds (parts before)) ≡ false
fits-none k ks [] taken = refl
fits-none k ks (c ∷ cs) taken = cc
