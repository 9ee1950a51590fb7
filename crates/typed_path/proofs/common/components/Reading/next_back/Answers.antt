use Rattle.std.proofs.Common.{subst, sym, refl, true, ◌≡◌}
use Rattle.typed_path.specs.components.{parts, written, as_written}
use Rattle.typed_path.specs.views.PathViews.{components_items}
use Rattle.typed_path.specs.texts.{have_text_names}
use Rattle.typed_path.proofs.lemmas.components.WrittenForms.{written-but_last, written-last}
use Rattle.typed_path.proofs.lemmas.texts.TextNames.{named-back, named-last_some}
use Rattle.typed_path.proofs.common.components.Reading.next_back.Goals as goal

pub invariant_of-self : goal.invariant_of-self
invariant_of-self g c = record {
  written = subst (λ cs. parts cs ≡ as_written g.T.Encoding.dialect (parts cs)) (sym c.back.ensures.items)
      (written-but_last (written g.T.Encoding.dialect) (components_items c.args.self.now) c.args.self.now.written);
  names = subst (λ cs. have_text_names (parts cs) ≡ true) (sym c.back.ensures.items) (named-back (components_items c.args.self.now) c.args.self.now.names);
}

pub from_piece-requires : goal.from_piece-requires
from_piece-requires g c κs =
    let items = components_items c.args.self.now in
    ((refl, tt), (written-last (written g.T.Encoding.dialect) c.in_ok-piece.piece items c.args.self.now.written c.in_ok-piece.ensures.taken, named-last_some _ items c.args.self.now.names c.in_ok-piece.ensures.taken))
