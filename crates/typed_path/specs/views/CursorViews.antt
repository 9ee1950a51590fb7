-- The two definitions over a cursor: the slice left and the components left.
use Rattle.std.specs.Prelude.{ℕ, ◌-◌, List, ◌++◌, take, slice_range, Option, Some, None}
use Rattle.typed_path.specs.declared.scan.cursor.Cursor.{Cursor}
use Rattle.typed_path.specs.declared.scan.cursor.Body.{Body}
use Rattle.typed_path.specs.declared.scan.prefix.Found.{Found}
use Rattle.typed_path.specs.declared.scan.separators.Separators.{Separators}
use Rattle.typed_path.specs.components.Parts.{Placed, prefix_part}
use Rattle.typed_path.specs.components.Comps.{component}
use Rattle.typed_path.specs.views.PieceViews.{prefix_view}
use Rattle.typed_path.specs.views.BodyViews.{body_items}

-- what is left behind the prefix
abbrev pub body_of : Cursor → Body
body_of c = record {
  text = c.text;
  from = c.from;
  to = c.to;
  begin = c.begin;
  separators = c.separators;
  ordered = c.ordered;
  in_range = c.in_range;
  starts_clean = c.starts_clean;
}

-- where the slice left begins: before the prefix, while that is still to be taken
abbrev pub start_left : Option Found → ℕ → ℕ
start_left None from = from
start_left (Some f) from = from - f.length

abbrev pub slice_left : Cursor → List ℕ
slice_left c = slice_range c.text.now (start_left c.prefix c.from) c.to

-- components behind the prefix, where that is still to be taken
abbrev pub prefix_left : Option Found → ℕ → List ℕ → List Placed → List Placed
prefix_left None at text rest = rest
prefix_left (Some f) at text rest = component (prefix_part (prefix_view f.kind) (take f.length text)) at ++ rest

abbrev pub items_left : Cursor → List Placed
items_left c = prefix_left c.prefix (start_left c.prefix c.from) (slice_left c) (body_items (body_of c))

-- the separators of the whole text
abbrev pub cursor_separators : Cursor → Separators
cursor_separators c = c.separators
