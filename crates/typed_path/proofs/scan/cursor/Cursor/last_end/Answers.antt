use Rattle.std.proofs.Common.{◌≡◌, Option, Some, None, refl, ap, ◌∙◌, option_map, unwrap_or}
use Rattle.typed_path.specs.declared.scan.cursor.Cursor.{Cursor}
use Rattle.typed_path.specs.declared.scan.prefix.Found.{Found}
use Rattle.typed_path.specs.components.{Placed, end_of}
use Rattle.typed_path.specs.scan.{last_of, end_from}
use Rattle.typed_path.specs.views.BodyViews.{body_items}
use Rattle.typed_path.specs.views.CursorViews.{body_of, items_left}
use Rattle.typed_path.proofs.lemmas.scan.Steps.{last_end-pending}
use Rattle.typed_path.proofs.scan.cursor.Cursor.last_end.Goals as goal

-- where the last component ends, with a prefix before the body or none
ends : (c : Cursor) (p : Option Found) → c.prefix ≡ p → (last : Placed) → last_of (items_left c) ≡ Some last → end_from c.from (body_items (body_of c)) ≡ end_of last
ends c (Some f) e last h = last_end-pending c f e last h
ends c None e last h = ap (λ o. unwrap_or (option_map end_of o) c.from) (rw e at h)

pub returns : goal.returns
returns c = λ last e. c.last_end.ensures ∙ ends c.args.self.now c.args.self.now.prefix refl last e
