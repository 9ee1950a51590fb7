-- The commands as the code tells them, and what each is called.
use Rattle.std.specs.Prelude.{ℕ, List, [], ◌∷◌, codes}
use Rattle.typed_path.specs.components.Dialects.{Dialect}
use Rattle.typed_path.specs.script.Lines.{tab, line_feed, reply_in, pair_reply_in, bad_line}
use Rattle.typed_path.specs.declared.script.lines.Command.{Command}
use Rattle.typed_path.specs.declared.script.lines.Command.TheVariants.{Normalize, Components, Join, JoinChecked, Convert, ConvertChecked}
use Rattle.typed_path.specs.declared.script.lines.FieldEnd.{FieldEnd}
use Rattle.typed_path.specs.declared.script.lines.FieldEnd.TheVariants.{Tab, LineFeed}

abbrev pub command_name : Command → List ℕ
command_name Normalize = codes "normalize"
command_name Components = codes "components"
command_name Join = codes "join"
command_name JoinChecked = codes "join_checked"
command_name Convert = codes "convert"
command_name ConvertChecked = codes "convert_checked"

-- the byte that stands behind a field
abbrev pub end_byte : FieldEnd → ℕ
end_byte Tab = tab
end_byte LineFeed = line_feed

-- the fields of the reply to a command on as many texts as a line has behind its dialect
abbrev pub texts_reply : Dialect → List ℕ → List (List ℕ) → List (List ℕ)
texts_reply d command (path ∷ []) = reply_in d command path
texts_reply d command (first ∷ path ∷ []) = pair_reply_in d command first path
texts_reply d command texts = bad_line
