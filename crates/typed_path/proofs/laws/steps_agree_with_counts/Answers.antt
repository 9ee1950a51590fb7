use Rattle.typed_path.specs.components.{comps}
use Rattle.typed_path.proofs.lemmas.scan.Readings.{stepwise_answers, stepwise_items, stepwise_none, slice_after-left, stepwise_slices, stepwise_end}
use Rattle.typed_path.proofs.lemmas.components.Cuts.{comps-laid_out}
use Rattle.typed_path.proofs.laws.steps_agree_with_counts.Goals as goal

pub returns : goal.returns
returns g c =
    let t = c.args.path.now in
    let cs = comps g.d t in
    let laid = comps-laid_out g.d t in
    record {
      answers = stepwise_answers;
      items = stepwise_items;
      slice = λ sides. stepwise_slices cs t sides laid;
      half_read = slice_after-left cs t laid;
      no_items = stepwise_none;
      no_slice = λ sides. stepwise_end cs t sides laid;
    }
