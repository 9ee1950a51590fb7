use Rattle.typed_path_uses.proofs.folders.filed_in.Given as goal

abbrev pub ghost-joined_twice_is_within : goal.ghost-joined_twice_is_within
ghost-joined_twice_is_within g a = g.T.Encoding.dialect
