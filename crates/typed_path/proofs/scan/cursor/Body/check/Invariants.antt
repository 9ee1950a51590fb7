use Rattle.std.proofs.Common.{◌≡◌, ◌+◌, ◌≤◌, [], length, IsTrue}
use Rattle.typed_path.specs.components.{kinds, parts, dialect_of}
use Rattle.typed_path.specs.views.BodyViews.{body_items}
use Rattle.typed_path.proofs.lemmas.queries.FileNames.{AllowsEach}
use Rattle.typed_path.specs.changes.{fault_behind, fault_at}
use Rattle.typed_path.proofs.scan.cursor.Body.check.Given as goal

abbrev pub invariant-steps : goal.invariant-steps
invariant-steps l = record {
  fault : fault_behind (dialect_of l.fn.self.separators) [] (kinds (parts (body_items l.fn.self)))
      ≡ fault_at (dialect_of l.self.separators) l.depth (kinds (parts (body_items l.self)));
  allowed : IsTrue l.allowed → AllowsEach (dialect_of l.self.separators) (kinds (parts (body_items l.self)));
  deep : l.depth + length (body_items l.self) ≤ length (body_items l.fn.self);
}

abbrev pub decreases-steps : goal.decreases-steps
decreases-steps l = length (body_items l.self)
