use Rattle.std.proofs.Common.{◌≡◌, ◌+◌, ℕ, List, drop, get_or, length, length-drop, take, ap, sym, ◌∙◌, arith, drop-drop, length-take-le}
use Rattle.std.specs.List.{position_or_len}
use Rattle.std.proofs.lemmas.List.{take_rest, get_or-drop}
use Rattle.std.proofs.lemmas.List.Sums.{passes_at_first, position_or_len_is}
use Rattle.typed_path.specs.declared.scan.separators.Separators.{Separators}
use Rattle.typed_path.specs.components.{is_separator, normal, Part, component, first}
use Rattle.typed_path.specs.views.PieceViews.{step_part, step_view}
use Rattle.typed_path.proofs.lemmas.components.Segments.{body_from-first}
use Rattle.typed_path.proofs.scan.step.front_step.Goals as goal

-- what stands behind the first segment is nothing, or begins with a separator
behind-segment : (s : Separators) (text behind : List ℕ) (end : ℕ) → end ≡ position_or_len (is_separator s) text → behind ≡ drop end text → position_or_len (is_separator s) behind ≡ 0
behind-segment s text behind end ends is =
    position_or_len_is (is_separator s) behind 0 0 (omega arith) (λ k l. absurd (omega (arith, l)))
    (λ some. ap (λ xs. is_separator s (get_or xs 0 0)) is ∙ ap (is_separator s) (get_or-drop end text 0 0 ∙ ap (λ n. get_or text n 0) (end-is end ends))
    ∙ passes_at_first (is_separator s) text 0 (omega (arith, some, ap length is, length-drop end text, ends)))
  where
    end-is : (e : ℕ) → e ≡ position_or_len (is_separator s) text → e + 0 ≡ position_or_len (is_separator s) text
    end-is e same = omega (arith, same)

pub skip_from_separator-behind-requires : goal.skip_from_separator-behind-requires
skip_from_separator-behind-requires c = behind-segment c.args.separators c.args.text.now _ c.args.end c.requires.ends (take_rest c.args.text.now c.args.end)

pub returns-clause-first : goal.returns-clause-first
returns-clause-first c = grind (arith, take_rest, body_from-first, drop-drop)

-- a segment that is a name is the whole of it
name-whole : (s : Separators) (segment : List ℕ) (p : Part) (name : List ℕ) → first s (record { text = segment; start = 0 }) ≡ component p 0 → p.kind ≡ normal name → p.text ≡ segment
name-whole s segment p name = grind arith

pub returns-clause-named : goal.returns-clause-named
returns-clause-named c = λ is.
    let whole = name-whole c.args.separators (take c.args.end c.args.text.now) (step_part c.step_of.result) c.step_of.result.text.now (c.step_of.ensures 0) (ap (λ k. step_view k c.step_of.result.text.now) is) in
    ap (λ t. take (length t) c.args.text.now) whole ∙ ap (λ n. take n c.args.text.now) (length-take-le c.args.end c.args.text.now c.requires.within) ∙ sym whole
