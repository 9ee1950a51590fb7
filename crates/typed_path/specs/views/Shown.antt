-- What is shown of the components of a path by what a reading gives for each.
use Rattle.std.specs.Prelude.{◌≡◌, ℕ, List, Option, map, option_map, refl}
use Rattle.std.proofs.Common.{sym}
use Rattle.std.proofs.lemmas.List.{map-id}
use Rattle.std.proofs.lemmas.Iterator.Adapters.{option_map_id}
use Rattle.typed_path.specs.components.Parts.{Part, texts}

-- of one, of one that may be there, and of a list: the last two show each component as the first does
pub record Shown (K : Type 0) : Type 0 where
  pub of : Part → K
  pub of_option : Option Part → Option K
  pub of_list : List Part → List K
  pub option-mapped : (part : Option Part) → of_option part ≡ option_map of part
  pub list-mapped : (all : List Part) → of_list all ≡ map of all

-- the component itself
abbrev pub whole : Shown Part
whole = record { of = λ p. p; of_option = λ p. p; of_list = λ ps. ps; option-mapped = λ p. sym (option_map_id p); list-mapped = λ ps. sym (map-id ps) }

-- its text
abbrev pub text_alone : Shown (List ℕ)
text_alone = record { of = λ p. p.text; of_option = option_map (λ p. p.text); of_list = texts; option-mapped = λ p. refl; list-mapped = λ ps. refl }
