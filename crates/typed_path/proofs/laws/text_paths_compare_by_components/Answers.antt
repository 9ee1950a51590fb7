use Rattle.std.proofs.Common.{sym}
use Rattle.typed_path.specs.components.{kinds, parts_of}
use Rattle.typed_path.specs.views.TextViews.{utf8_bytes}
use Rattle.typed_path.proofs.lemmas.order.Comparisons.{kinds_cmp-is_eq, path_words-kinds}
use Rattle.typed_path.proofs.laws.text_paths_compare_by_components.Goals as goal

pub returns-clause-equality : goal.returns-clause-equality
returns-clause-equality g c =
    kinds_cmp-is_eq (kinds (parts_of g.T.Bytes.Encoding.dialect (utf8_bytes c.args.one))) (kinds (parts_of g.T.Bytes.Encoding.dialect (utf8_bytes c.args.other)))

pub returns-clause-hash : goal.returns-clause-hash
returns-clause-hash g c = sym (path_words-kinds g.T.Bytes.Encoding.dialect (utf8_bytes c.args.one))
