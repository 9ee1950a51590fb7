use Rattle.std.proofs.Common.{subst, sym, true, ◌≡◌}
use Rattle.typed_path.specs.components.{parts, written, as_written}
use Rattle.typed_path.specs.views.PathViews.{components_items}
use Rattle.typed_path.specs.texts.{have_text_names}
use Rattle.typed_path.proofs.lemmas.components.WrittenForms.{written-drop}
use Rattle.typed_path.proofs.lemmas.texts.TextNames.{named-front}
use Rattle.typed_path.proofs.common.components.Reading.next.Goals as goal

pub invariant_of-self : goal.invariant_of-self
invariant_of-self g c = record {
  written = subst (λ cs. parts cs ≡ as_written g.T.Encoding.dialect (parts cs)) (sym c.front.ensures.items)
      (written-drop (written g.T.Encoding.dialect) (components_items c.args.self.now) c.args.self.now.written);
  names = subst (λ cs. have_text_names (parts cs) ≡ true) (sym c.front.ensures.items) (named-front (components_items c.args.self.now) c.args.self.now.names);
}
