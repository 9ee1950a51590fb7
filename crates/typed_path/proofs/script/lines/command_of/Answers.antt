use Rattle.typed_path.proofs.lemmas.script.Lines.{no_command_begins}
use Rattle.typed_path.proofs.script.lines.command_of.Goals as goal

pub returns : goal.returns
returns c = no_command_begins c.args.input.now c.in_default.ensures c.in_default-text_behind.ensures c.in_default-text_behind-2.ensures c.in_default-text_behind-3.ensures c.in_default-text_behind-4.ensures c.in_default-text_behind-5.ensures
