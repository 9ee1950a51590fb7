-- Names are one where they compare as equal.
use Rattle.std.proofs.Common.{◌≡◌, ℕ, List, Ordering, Less, Equal, Greater, is_eq, refl, sym, ◌∙◌}
use Rattle.std.specs.Ordering.{ordering_then}
use Rattle.std.specs.Str.{bytes_eq}
use Rattle.std.specs.Cmp.Lexicographic.{texts_ties}
use Rattle.typed_path.specs.components.{normal}
use Rattle.typed_path.specs.order.{bytes_cmp, kind_cmp}

then-equal : (o : Ordering) → is_eq (ordering_then o Equal) ≡ is_eq o
then-equal Less = refl
then-equal Equal = refl
then-equal Greater = refl

pub same-name : (a b : List ℕ) → bytes_eq a b ≡ is_eq (kind_cmp (normal a) (normal b))
same-name a b = texts_ties a b ∙ sym (then-equal (bytes_cmp a b))
