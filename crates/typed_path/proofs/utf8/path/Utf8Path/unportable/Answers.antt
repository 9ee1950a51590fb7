use Rattle.std.proofs.Common.{sym, ap, ◌∙◌, option_map}
use Rattle.typed_path.specs.views.PathViews.{path_bytes}
use Rattle.typed_path.specs.views.OffenceViews.{offence_of}
use Rattle.typed_path.proofs.lemmas.queries.Portable.{unportable_text}
use Rattle.typed_path.proofs.utf8.path.Utf8Path.unportable.Goals as goal

pub text_of-requires : goal.text_of-requires
text_of-requires g c =
    unportable_text g.T.Bytes.Encoding.dialect (path_bytes c.as_bytes_path.result) (c.in-Some.text.now, c.in-Some.fault) c.as_bytes_path.ensures.text
    (sym c.unportable.ensures ∙ ap (option_map offence_of) c.in-Some.is)
