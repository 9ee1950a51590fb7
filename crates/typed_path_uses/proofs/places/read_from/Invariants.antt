use Rattle.typed_path_uses.proofs.places.read_from.Given as goal

abbrev pub ghost-clean_leads_where_its_path_does : goal.ghost-clean_leads_where_its_path_does
ghost-clean_leads_where_its_path_does g a = g.T.Encoding.dialect
