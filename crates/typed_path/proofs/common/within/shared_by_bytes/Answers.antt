use Rattle.std.proofs.Common.{◌≡◌, ◌∙◌, ℕ, List, arith, take, refl, ap₂, sym}
use Rattle.typed_path.specs.components.{Placed, body, parts, texts}
use Rattle.typed_path.specs.queries.{end_of_first, shared_count}
use Rattle.typed_path.specs.scan.{end_from}
use Rattle.typed_path.specs.views.CursorViews.{items_left}
use Rattle.typed_path.proofs.lemmas.queries.SharedFronts.{front-end, unprefixed, whole-items}
use Rattle.typed_path.proofs.common.within.shared_by_bytes.Goals as goal

pub returns : goal.returns
returns c =
    let s = c.body-own.result.separators in
    let t = c.as_bytes-text.result.now in
    let u = c.as_bytes.result.now in
    let n = c.in_ok-front.front in
    let shared : List Placed → List Placed → ℕ = λ xs ys. end_of_first xs (shared_count (texts (parts xs)) (texts (parts ys))) in
    let own = whole-items c.body-own.result s t refl c.as_bytes-text.ensures (c.is_whole.ensures c.if-not-is_whole.false) (omega (arith, c.if-own-ne0.false)) in
    let other = whole-items c.body-other.result s u (c.is_same.ensures c.if-not-is_same.false) c.as_bytes.ensures (c.is_whole-else-not-is_whole.ensures c.if-not-is_whole-2.false) (omega (arith, c.if-other-ne0.false)) in
    let is : c.last_end.result ≡ end_from 0 (body s 0 (take n t)) = c.last_end.ensures ∙ ap₂ end_from c.new.ensures.from c.new.ensures.items in
    is ∙ front-end s t u (take n t) c.in_ok-front.ensures.front ∙ ap₂ shared own other
    ∙ ap₂ shared (c.body-own.ensures ∙ unprefixed (items_left c.args.own) (sym c.has_prefix.ensures ∙ c.if-has_prefix.false))
    (c.body-other.ensures ∙ unprefixed (items_left c.args.other) (sym c.has_prefix-else-has_prefix.ensures ∙ c.if-has_prefix-2.false))
