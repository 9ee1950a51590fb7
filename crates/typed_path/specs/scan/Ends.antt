-- The requests of a reading from both ends, and its answers.
use Rattle.std.specs.Prelude.{List, map, Option, option_map}
use Rattle.typed_path.specs.declared.script.run.End.{End}
use Rattle.typed_path.specs.declared.script.run.End.TheVariants.{Front, Back}
use Rattle.typed_path.specs.components.Parts.{Part, Placed}
use Rattle.typed_path.specs.scan.Left.{Side, front, back}

abbrev pub side_of : End → Side
side_of Front = front
side_of Back = back

abbrev pub sides : List End → List Side
sides ends = map side_of ends

-- the answers without their places
abbrev pub taken_parts : List (Option Placed) → List (Option Part)
taken_parts answers = map (option_map (λ c. c.part)) answers
