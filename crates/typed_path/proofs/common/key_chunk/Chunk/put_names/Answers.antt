use Rattle.std.proofs.Common.{◌≡◌, ◌≤◌, ◌+◌, ◌-◌, ◌++◌, length, take, sym, ap, ◌∙◌, arith, fold}
use Rattle.typed_path.specs.order.{chunked, left_key_bytes}
use Rattle.typed_path.specs.views.BodyViews.{body_items}
use Rattle.typed_path.proofs.lemmas.order.KeyChunks.{chunk-brought, names-fed, names-wait}
use Rattle.typed_path.proofs.common.key_chunk.Chunk.put_names.Goals as goal

pub returns-then-end-le128-clause-fed : goal.returns-then-end-le128-clause-fed
returns-then-end-le128-clause-fed g c =
    ap (λ bs. fold g.H.Hasher.write c.args.state.now (chunked bs))
    (names-wait g.H.Hasher.write c.args.self.now.bytes c.lay_names-count.new.block c.args.self.now.used c.lay_names-count.result (body_items c.args.body.now) (body_items c.lay_names-count.new.body)
    c.lay_names-count.ensures.kept c.lay_names-count.ensures.laid)

pub returns-clause-fed : goal.returns-clause-fed
returns-clause-fed g c =
    let used = c.args.self.now.used in
    let count = c.lay_names-count.result in
    let block = c.lay_names-count.new.block in
    let long : length block ≡ 192 = c.lay_names-count.ensures.long ∙ c.args.self.now.long in
    let low : used + count ≤ 192 = omega (arith, c.args.self.now.fits, c.lay_names-count.ensures.within) in
    names-fed g.H.Hasher.write c.args.self.now.bytes block used count (body_items c.args.body.now) (body_items c.lay_names-count.new.body) c.lay_names-count.ensures.kept c.lay_names-count.ensures.laid
    c.args.state.now c.write.new.self long low c.if-end-le128.false c.write.ensures
    ∙ ap (λ bs. fold g.H.Hasher.write c.write.new.self (chunked (bs ++ left_key_bytes (body_items c.lay_names-count.new.body))))
    (sym (ap (take (used + count - 128)) c.copy_within.ensures.after ∙ chunk-brought block (used + count - 128) long (omega (arith, low))))
