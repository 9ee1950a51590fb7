use Rattle.typed_path_uses.proofs.places.without_detours.Given as goal

abbrev pub ghost-clean_has_its_form : goal.ghost-clean_has_its_form
ghost-clean_has_its_form g a = g.T.Encoding.dialect

abbrev pub ghost-cleaned_is_short : goal.ghost-cleaned_is_short
ghost-cleaned_is_short g a = g.T.Encoding.dialect

abbrev pub ghost-clean_stays_a_text : goal.ghost-clean_stays_a_text
ghost-clean_stays_a_text g a = g.T.Encoding.dialect
