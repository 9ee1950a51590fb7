use Rattle.std.proofs.Common.{◌≡◌, ◌++◌, take, drop, sym, ap, subst, ◌∙◌, length-take-le, arith, take_all}
use Rattle.typed_path.specs.components.{parts, windows, parts_of}
use Rattle.typed_path.specs.changes.{AreReadBehind, Stands}
use Rattle.typed_path.specs.views.CursorViews.{items_left}
use Rattle.typed_path.proofs.lemmas.changes.MergedInPlace.{prefixed-based, merged-text}
use Rattle.typed_path.proofs.lemmas.scan.Steps.{parts-rest}
use Rattle.typed_path.proofs.windows.push.spelled_anew.Goals as goal

pub put_each-requires-clause-read : goal.put_each-requires-clause-read
put_each-requires-clause-read c =
    let base = c.args.base.now in
    subst AreReadBehind (sym (ap parts c.front.ensures.items ∙ parts-rest (items_left c.of_windows-rest.result) ∙ ap (λ cs. drop 1 (parts cs)) c.of_windows-rest.ensures.items)) (prefixed-based base c.requires.own).read

pub returns : goal.returns
returns c =
    let base = c.args.base.now in
    let other = c.args.other.now in
    let head = c.prefix_len-head.result in
    let rest : parts (items_left c.front.new.self) ≡ drop 1 (parts_of windows base) = ap parts c.front.ensures.items ∙ parts-rest (items_left c.of_windows-rest.result) ∙ ap (λ cs. drop 1 (parts cs)) c.of_windows-rest.ensures.items in
    let raw : c.extend_from_slice.new.self.items ≡ take head base = c.in_ok-extend_from_slice.ensures.items ∙ ap (λ t. t ++ take head base) c.in_ok-text.ensures.items in
    let kept : take head c.merge_path.new.text.items ≡ take head base =
    c.in_ok-merge_path.ensures.kept ∙ c.in_ok-parted.ensures.kept ∙ ap (take head) raw ∙ take_all head (take head base) (omega (arith, length-take-le head base c.prefix_len-head.ensures.within)) in
    merged-text base other c.merge_path.new.text.items head c.in_ok-merge_path.field-0 c.requires.own c.requires.no_prefix c.prefix_len-head.ensures.length kept
    (c.in_ok-merge_path.ensures.stands (drop 1 (parts_of windows base)) (subst (λ ps. Stands c.in_ok-parted.parted ps (drop head c.put_each.new.text.items)) rest c.in_ok-parted.ensures.stands))
