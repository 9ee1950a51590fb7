use Rattle.typed_path_uses.proofs.beside.surely_fits.Given as goal

abbrev pub ghost-joined_is_short : goal.ghost-joined_is_short
ghost-joined_is_short g a = g.T.Encoding.dialect

abbrev pub ghost-renamed_is_short : goal.ghost-renamed_is_short
ghost-renamed_is_short g a = g.T.Encoding.dialect

abbrev pub ghost-normalized_is_short : goal.ghost-normalized_is_short
ghost-normalized_is_short g a = g.T.Encoding.dialect
