use Rattle.std.proofs.Common.{◌≡◌, ◌+◌, ◌||◌, Bool, ℕ, List, length, drop, take, ◌-◌, sym, ap, ◌∙◌, arith}
use Rattle.std.proofs.lemmas.List.{take_rest}
use Rattle.typed_path.specs.changes.{begins_with_device, has_device_behind}
use Rattle.typed_path.proofs.lemmas.changes.MayBegins.{lowest-within, lowest-separator, marks-behind, unmarked}
use Rattle.typed_path.proofs.scan.separators.has_device_at.Goals as goal

-- the segment that begins at a place
here : (text : List ℕ) (at : ℕ) (segment : Bool) → segment ≡ begins_with_device (take (length text - at) (drop at text))
    → (begins_with_device (drop at text) || has_device_behind (drop at text)) ≡ (segment || has_device_behind (drop at text))
here text at segment is = ap (λ b. b || has_device_behind (drop at text)) (ap begins_with_device (sym (take_rest text at)) ∙ sym is)

pub returns : goal.returns
returns c = grind (arith, unmarked)

pub returns-then-begins_with_device : goal.returns-then-begins_with_device
returns-then-begins_with_device c =
    let text = c.args.text.now in
    let at = c.marks.at + (c.lowest-behind.result + 1) in
    c.marks.invariant.same
    ∙ lowest-separator text c.marks.at c.args.to c.marks.left c.lowest-behind.result c.marks.invariant.high c.requires.in_range c.marks.invariant.marked c.lowest-behind.ensures.set c.lowest-behind.ensures.below
    ∙ here text at _ c.begins_with_device.ensures
    ∙ ap (λ b. b || has_device_behind (drop at text)) c.if-begins_with_device.true

pub marks-preserved : goal.marks-preserved
marks-preserved c =
    let text = c.args.text.now in
    let at = c.marks.at + (c.lowest-behind.result + 1) in
    record {
      low = omega (arith, c.marks.invariant.low);
      high = lowest-within text c.marks.at c.args.to c.marks.left c.lowest-behind.result c.marks.invariant.high c.requires.in_range c.marks.invariant.marked c.lowest-behind.ensures.set c.lowest-behind.ensures.below;
      marked = marks-behind text c.marks.at c.args.to c.marks.left c.lowest-behind.result c.marks.invariant.high c.requires.in_range c.marks.invariant.marked c.lowest-behind.ensures.set c.lowest-behind.ensures.below;
      same =
          c.marks.invariant.same
          ∙ lowest-separator text c.marks.at c.args.to c.marks.left c.lowest-behind.result c.marks.invariant.high c.requires.in_range c.marks.invariant.marked c.lowest-behind.ensures.set c.lowest-behind.ensures.below
          ∙ here text at _ c.begins_with_device.ensures
          ∙ ap (λ b. b || has_device_behind (drop at text)) c.if-begins_with_device.false;
    }
