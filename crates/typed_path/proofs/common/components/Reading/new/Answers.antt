use Rattle.std.proofs.Common.{subst, sym, true, ◌≡◌}
use Rattle.typed_path.specs.components.{parts, as_written}
use Rattle.typed_path.specs.texts.{have_text_names}
use Rattle.typed_path.proofs.lemmas.components.WrittenForms.{written-parts_of}
use Rattle.typed_path.proofs.lemmas.texts.TextNames.{named-starts}
use Rattle.typed_path.proofs.common.components.Reading.new.Goals as goal

pub invariant_of-result : goal.invariant_of-result
invariant_of-result g c = record {
  written = subst (λ cs. parts cs ≡ as_written g.T.Encoding.dialect (parts cs)) (sym c.cursor.ensures.items) (written-parts_of g.T.Encoding.dialect _);
  names = subst (λ cs. have_text_names (parts cs) ≡ true) (sym c.cursor.ensures.items) (named-starts g.T.Encoding.dialect _);
}
