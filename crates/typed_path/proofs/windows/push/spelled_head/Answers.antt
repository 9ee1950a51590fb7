use Rattle.std.proofs.Common.{sym, ap, subst, ◌∙◌}
use Rattle.std.proofs.lemmas.List.{take_rest}
use Rattle.typed_path.specs.components.{windows}
use Rattle.typed_path.specs.changes.{raw_length, TellsSpelled}
use Rattle.typed_path.specs.views.PieceViews.{found_of}
use Rattle.typed_path.proofs.lemmas.components.Prefixes.{prefix-fits}
use Rattle.typed_path.proofs.lemmas.changes.SpelledTexts.{plain-unspelled}
use Rattle.typed_path.proofs.windows.push.spelled_head.Goals as goal

pub slice_bounds-is_spelled_behind-count : goal.slice_bounds-is_spelled_behind-count
slice_bounds-is_spelled_behind-count c = (prefix-fits windows c.args.text.now (found_of c.in_ok-found.found) (sym c.in_ok-found.ensures)).fits

pub slice_bounds-is_spelled_behind-start : goal.slice_bounds-is_spelled_behind-start
slice_bounds-is_spelled_behind-start c = (prefix-fits windows c.args.text.now (found_of c.in_ok-found.found) (sym c.in_ok-found.ensures)).fits

pub returns-then-not-is_verbatim : goal.returns-then-not-is_verbatim
returns-then-not-is_verbatim c = plain-unspelled c.args.text.now (found_of c.in_ok-found.found) (sym c.in_ok-found.ensures) (sym c.is_verbatim.ensures ∙ c.if-not-is_verbatim.true)

pub returns-then-not-is_spelled_behind : goal.returns-then-not-is_spelled_behind
returns-then-not-is_spelled_behind c =
    subst (λ b. TellsSpelled b c.args.text.now) c.if-not-is_spelled_behind.true
    (c.is_spelled_behind.ensures (found_of c.in_ok-found.found) (sym c.in_ok-found.ensures) (sym c.is_verbatim.ensures ∙ c.if-not-is_verbatim.false)
    (sym (take_rest c.args.text.now c.in_ok-found.found.length)))

pub returns : goal.returns
returns c = (
  subst (λ b. TellsSpelled b c.args.text.now) c.if-not-is_spelled_behind.false
      (c.is_spelled_behind.ensures (found_of c.in_ok-found.found) (sym c.in_ok-found.ensures) (sym c.is_verbatim.ensures ∙ c.if-not-is_verbatim.false)
      (sym (take_rest c.args.text.now c.in_ok-found.found.length))),
  ap raw_length c.in_ok-found.ensures,
)
