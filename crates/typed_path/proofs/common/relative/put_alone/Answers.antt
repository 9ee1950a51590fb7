use Rattle.std.proofs.Common.{◌++◌, ◌∷◌, [], ap, ◌∙◌}
use Rattle.typed_path.specs.places.{row_end}
use Rattle.typed_path.specs.scan.{turned}
use Rattle.typed_path.proofs.lemmas.places.NearSteps.{alone-open, alone-shut}
use Rattle.typed_path.proofs.common.relative.put_alone.Goals as goal

pub returns-then-near-clause-ok : goal.returns-then-near-clause-ok
returns-then-near-clause-ok c = λ names alone. alone-shut c.args.separators _ _ c.args.near.rest.now c.args.near.ended names c.in_ok-put_turned_where.ensures.ok c.if-near.true alone

pub returns-clause-ok : goal.returns-clause-ok
returns-clause-ok c = λ names alone.
    alone-open c.args.separators _ _ c.args.near.rest.now c.args.near.ended names
    (c.in_ok-push.ensures.items
    ∙ ap (λ t. t ++ c.row_end.result ∷ []) c.in_ok-put_turned_where.ensures.ok
    ∙ ap (λ b. (c.args.text.now.items ++ turned c.args.separators (row_end c.args.separators) c.args.near.rest.now) ++ b ∷ []) c.row_end.ensures)
    c.if-near.false alone
