use Rattle.std.proofs.Common.{fold, ap, ◌∙◌}
use Rattle.typed_path.specs.order.Words.{path_words}
use Rattle.typed_path.proofs.lemmas.order.Comparisons.{path_words-kinds}
use Rattle.typed_path.proofs.common.order.PathBufHash.hash.Goals as goal

pub returns : goal.returns
returns g c =
    let d = g.T.Encoding.dialect in
    let feed = fold g.H.Hasher.write c.args.state.now in
    c.hash.ensures ∙ ap (λ bytes. feed (path_words d bytes)) (c.as_bytes.ensures ∙ c.as_path.ensures) ∙ ap feed (path_words-kinds d c.args.self.now.bytes)
