use Rattle.typed_path.proofs.lemmas.queries.FileNames.{stem_of-whole, stem_of-extension, stem_of-filled}
use Rattle.typed_path.proofs.laws.name_is_stem_and_extension.Goals as goal

pub returns : goal.returns
returns c = record {
  stem_alone = stem_of-whole c.args.name.now;
  stem_and_extension = λ e some. (stem_of-extension c.args.name.now e some).0;
  without_dot = λ e some. (stem_of-extension c.args.name.now e some).1;
  stem_is_filled = stem_of-filled c.args.name.now;
}
