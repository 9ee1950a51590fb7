use Rattle.typed_path_uses.proofs.notes.are_alike.Given as goal

abbrev pub ghost-order_agrees_with_equality : goal.ghost-order_agrees_with_equality
ghost-order_agrees_with_equality g a = g.T.Encoding.dialect
