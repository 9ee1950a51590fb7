use Rattle.std.proofs.Common.{◌≡◌, ◌<◌, ◌+◌, ◌-◌, ◌||◌, ℕ, List, Bool, length, take, drop, sym, ap, ◌∙◌, arith}
use Rattle.std.proofs.lemmas.List.{take_rest}
use Rattle.typed_path.specs.components.{slash, backslash}
use Rattle.typed_path.specs.scan.{IsFirstOf}
use Rattle.typed_path.specs.changes.{begins_with_device, has_device_behind}
use Rattle.typed_path.proofs.lemmas.changes.ValidPaths.{behind-from, behind-separator, behind-end}
use Rattle.typed_path.proofs.scan.separators.has_device_behind.Goals as goal

pub returns : goal.returns
returns c = sym (c.segments.invariant.same ∙ behind-end c.args.text.now c.segments.at (omega (arith, c.segments-test.false)))

pub returns-then-found-len : goal.returns-then-found-len
returns-then-found-len c =
    let text = c.args.text.now in
    let found = c.first_between-found.result in
    let whole : found ≡ length text = c.if-found-len.true in
    sym (c.segments.invariant.same ∙ behind-from text c.segments.at (length text) found (omega arith) c.first_between-found.ensures ∙ behind-end text found (omega (arith, whole)))

-- what the segment behind the separator that was found tells
told : (text : List ℕ) (at found : ℕ) (segment : Bool) → IsFirstOf (slash, backslash) text at (length text) found → found < length text
    → has_device_behind text ≡ has_device_behind (drop at text)
    → segment ≡ begins_with_device (take (length text - (found + 1)) (drop (found + 1) text))
    → has_device_behind text ≡ (segment || has_device_behind (drop (found + 1) text))
told text at found segment first within same is = grind (arith, behind-separator, take_rest)

pub returns-then-begins_with_device : goal.returns-then-begins_with_device
returns-then-begins_with_device c =
    let text = c.args.text.now in
    let found = c.first_between-found.result in
    let within : found < length text = omega (arith, c.first_between-found.ensures.high, c.if-found-len.false) in
    sym (told text c.segments.at found _ c.first_between-found.ensures within c.segments.invariant.same c.begins_with_device.ensures
    ∙ ap (λ b. b || has_device_behind (drop (found + 1) text)) c.if-begins_with_device.true)

pub segments-preserved : goal.segments-preserved
segments-preserved c =
    let text = c.args.text.now in
    let found = c.first_between-found.result in
    let within : found < length text = omega (arith, c.first_between-found.ensures.high, c.if-found-len.false) in
    record {
      within = omega (arith, within);
      same =
          told text c.segments.at found _ c.first_between-found.ensures within c.segments.invariant.same c.begins_with_device.ensures
          ∙ ap (λ b. b || has_device_behind (drop (found + 1) text)) c.if-begins_with_device.false;
    }
