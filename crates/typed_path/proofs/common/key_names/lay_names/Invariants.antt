use Rattle.std.proofs.Common.{◌≡◌, ◌-◌, length, take}
use Rattle.typed_path.specs.order.{left_key_bytes}
use Rattle.typed_path.specs.views.BodyViews.{body_items}
use Rattle.typed_path.proofs.lemmas.order.KeyNames.{IsLaidOut, window}
use Rattle.typed_path.proofs.common.key_names.lay_names.Given as goal

abbrev pub invariant-names : goal.invariant-names
invariant-names l =
    (l.body ≡ l.fn.body)
    × (length l.block ≡ length l.fn.block)
    × (take l.at l.block ≡ take l.at l.fn.block)
    × IsLaidOut l.body.separators l.pair (left_key_bytes (body_items l.fn.body)) l.left l.size (window l.at l.block) l.marks l.begin

abbrev pub decreases-names : goal.decreases-names
decreases-names l = 64 - l.begin
