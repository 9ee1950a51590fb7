use Rattle.std.proofs.Common.{◌≡◌, sym, ap, ◌∙◌, rules, option_map, Some, None}
use Rattle.std.proofs.lemmas.Bool.{not-true, not-false}
use Rattle.typed_path.specs.views.PathViews.{path_bytes}
use Rattle.typed_path.specs.views.PieceViews.{part_of}
use Rattle.typed_path.proofs.lemmas.queries.Bases.{Strips-start, Strips-end, Strips-short, Strips-differ, Strips-step}
use Rattle.typed_path.proofs.lemmas.scan.Steps.{empty-first}
use Rattle.typed_path.proofs.common.path.Path.behind_by_components.Goals as goal

pub pieces-init : goal.pieces-init
pieces-init g c =
    Strips-start g.T.Encoding.dialect (path_bytes c.args.self) (path_bytes c.args.base) _ _ _ c.components-rest.ensures.items c.components-wanted.ensures.items c.components-rest.ensures.slice

pub returns-in_err-own : goal.returns-in_err-own
returns-in_err-own g c =
    let none : option_map path_bytes c.from_residual.result ≡ None = search rules in
    none ∙ sym (Strips-short c.pieces.invariant (part_of c.in-Some.piece) c.in-Some.ensures.taken c.in_err-own.ensures.taken)

pub returns-then-ne : goal.returns-then-ne
returns-then-ne g c =
    sym (Strips-differ c.pieces.invariant (part_of c.in-Some.piece) (part_of c.in_ok-own.own) c.in-Some.ensures.taken c.in_ok-own.ensures.taken
    (not-true _ (sym c.ne.ensures ∙ c.if-ne.true)))

pub pieces-preserved : goal.pieces-preserved
pieces-preserved g c =
    Strips-step c.pieces.invariant (part_of c.in-Some.piece) (part_of c.in_ok-own.own) _ _ _ c.in-Some.ensures.taken c.in_ok-own.ensures.taken
    (not-false _ (sym c.ne.ensures ∙ c.if-ne.false)) c.in_ok-own.ensures.items c.in-Some.ensures.items c.in_ok-own.ensures.slice

pub returns : goal.returns
returns g c =
    ap Some (c.new.ensures ∙ c.as_bytes.ensures) ∙ sym (Strips-end c.pieces.invariant (empty-first _ c.in_default.ensures.taken))
