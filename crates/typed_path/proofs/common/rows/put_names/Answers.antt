use Rattle.std.proofs.Common.{◌++◌, ◌∷◌, [], ap, sym, subst, ◌∙◌}
use Rattle.std.proofs.lemmas.List.{take_rest}
use Rattle.typed_path.specs.places.{ArePut, row_end}
use Rattle.typed_path.specs.scan.{turned}
use Rattle.typed_path.proofs.lemmas.components.Segments.{pieces}
use Rattle.typed_path.proofs.lemmas.places.NamedRows.{put-before, put-whole}
use Rattle.typed_path.proofs.lemmas.places.CleanRows.{told-whole, told-before}
use Rattle.typed_path.proofs.common.rows.put_names.Goals as goal

pub returns-in_default-clause-ok : goal.returns-in_default-clause-ok
returns-in_default-clause-ok c =
    let s = c.args.separators in
    let old = c.args.text.now.items in
    let path = c.args.path.now in
    put-whole s old _ path (told-whole s path (rw c.in_default.is at c.requires))
    (c.in_ok-push.ensures.items
    ∙ ap (λ t. t ++ c.row_end.result ∷ []) c.in_ok-put_turned_where.ensures.ok
    ∙ ap (λ b. (old ++ turned s (row_end s) path) ++ b ∷ []) c.row_end.ensures)

pub returns-clause-ok : goal.returns-clause-ok
returns-clause-ok c =
    let s = c.args.separators in
    let old = c.args.text.now.items in
    let path = c.args.path.now in
    let told = told-before s path c.in-First.names (rw c.in-First.is at c.requires) in
    subst (λ rest. ArePut s old c.put_turned_where-2.new.text.items (pieces s path) (pieces s rest)) (sym (take_rest path c.in-First.names))
    (put-before s old _ path c.in-First.names told.names told.named told.parted c.in_ok-put_turned_where-2.ensures.ok)
