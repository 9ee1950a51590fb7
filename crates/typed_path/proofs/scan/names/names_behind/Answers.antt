use Rattle.std.proofs.Common.{◌≡◌, ◌+◌, ◌-◌, ◌&&◌, Bool, false, length, slice_index, refl, sym, ap, ◌∙◌, arith}
use Rattle.std.proofs.lemmas.Bool.{and_parts}
use Rattle.typed_path.specs.scan.{is_one_of}
use Rattle.typed_path.specs.changes.{begins_no_name}
use Rattle.typed_path.proofs.lemmas.changes.NamePieces.{names-told, names-before, names-ended}
use Rattle.typed_path.proofs.scan.names.names_behind.Goals as goal
use Rattle.typed_path.proofs.scan.names.names_behind.Goals.{else-is_one_of-via-then-is_one_of+else-begins_no_name, else-is_one_of-via-else-is_one_of}

-- of two tests not both hold
second : {x y : Bool} (b : Bool) → y ≡ x → y ≡ false → (b && x) ≡ false
second b e h = grind arith

first : {x y : Bool} (b : Bool) → y ≡ x → y ≡ false → (x && b) ≡ false
first b e none = ap (λ x. x && b) (sym e ∙ none)

pub returns-then-found-to : goal.returns-then-found-to
returns-then-found-to c = grind (arith, names-before, first, and_parts)

pub returns-then-begins_no_name : goal.returns-then-begins_no_name
returns-then-begins_no_name c = grind (arith, names-before, first)

pub returns-then-is_one_of-2 : goal.returns-then-is_one_of-2
returns-then-is_one_of-2 c = grind (arith, else-is_one_of-via-then-is_one_of+else-begins_no_name, second, else-is_one_of-via-else-is_one_of, first, names-ended)

pub returns : goal.returns
returns c =
    let text = c.args.text.now in
    let pair = c.args.pair in
    let to = length text - 2 in
    let last = slice_index text (to + 1) in
    let end : length text - 1 ≡ to + 1 = omega (arith, c.requires.size) in
    let filled : (is_one_of pair (slice_index text to) && begins_no_name pair last last) ≡ false =
    elim c.else-is_one_of.branch [
      | else-is_one_of-via-then-is_one_of+else-begins_no_name w ↦ second (is_one_of pair (slice_index text to)) w.begins_no_name.ensures w.if-begins_no_name.false
      | else-is_one_of-via-else-is_one_of w ↦ first (begins_no_name pair last last) c.is_one_of.ensures w.if-is_one_of.false
    ] in
    names-told pair text _ _ (slice_index text to) last (omega (arith, c.requires.size)) refl refl refl (ap (slice_index text) end) c.requires.first (sym c.is_one_of-2.ensures ∙ c.if-is_one_of-2.false) filled
    (λ k low high. c.first_no_name-found.ensures.before k low (omega (arith, high, c.if-found-to.false)))
