use Rattle.typed_path_uses.proofs.beside.shared_folder.Given as goal

abbrev pub ghost-common_ancestor_is_longest : goal.ghost-common_ancestor_is_longest
ghost-common_ancestor_is_longest g a = g.T.Encoding.dialect
