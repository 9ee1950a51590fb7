use Rattle.typed_path.specs.components.{windows}
use Rattle.typed_path.proofs.lemmas.texts.TextNames.{named-single}
use Rattle.typed_path.proofs.windows.component.WindowsPrefixComponentTryFromRefSliceU8.try_from.Goals as goal

pub new-requires : goal.new-requires
new-requires c = named-single windows c.args.text.now _ c.in_ok-kind.ensures
