use Rattle.std.proofs.Common.{not, length, ◌==◌, refl, sym, ap, ◌∙◌}
use Rattle.std.proofs.Math.Bool.{not-not}
use Rattle.typed_path.specs.scan.{is_one_of}
use Rattle.typed_path.proofs.lemmas.lists.Lists.{position-any}
use Rattle.typed_path.proofs.lemmas.scan.Searches.{first-of}
use Rattle.typed_path.proofs.scan.separators.is_free_of.Goals as goal

pub returns : goal.returns
returns c =
    let text = c.args.text.now in
    ap (λ n. n == length text) (first-of c.args.pair (is_one_of c.args.pair) (λ b. refl) text _ c.first_between.ensures)
    ∙ sym (not-not _)
    ∙ ap not (position-any (is_one_of c.args.pair) text)
