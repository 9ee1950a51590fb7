use Rattle.std.proofs.Common.{◌∙◌, sym, arith}
use Rattle.typed_path.proofs.lemmas.order.LoweredLists.{byte-lowered}
use Rattle.typed_path.proofs.common.ascii_case.lowered_byte.Goals as goal

pub returns-else-at-kept : goal.returns-else-at-kept
returns-else-at-kept c = c.to_ascii_lowercase.ensures.value ∙ sym (byte-lowered c.args.kept c.args.at c.args.text.now (omega arith) c.requires)
