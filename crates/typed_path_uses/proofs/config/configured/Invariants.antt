use Rattle.typed_path_uses.proofs.config.configured.Given as goal

abbrev pub ghost-within_leads_below : goal.ghost-within_leads_below
ghost-within_leads_below g a = g.T.Encoding.dialect
