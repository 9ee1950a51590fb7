-- What is left of a body: its slice and its components.
use Rattle.std.specs.Prelude.{ℕ, List, slice_range}
use Rattle.typed_path.specs.declared.scan.cursor.Body.{Body}
use Rattle.typed_path.specs.components.Parts.{Placed}
use Rattle.typed_path.specs.scan.Steps.{body_from}

abbrev pub body_slice : Body → List ℕ
body_slice c = slice_range c.text.now c.from c.to

abbrev pub body_items : Body → List Placed
body_items c = body_from c.begin c.separators c.from (body_slice c)
