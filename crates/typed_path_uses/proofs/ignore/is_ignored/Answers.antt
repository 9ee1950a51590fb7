use Rattle.std.proofs.Common.{arith, ◌≡◌, ◌∙◌}
use Rattle.std.proofs.lemmas.Grind.{common_steps}
use Rattle.typed_path.specs.components.{kinds, parts_of}
use Rattle.typed_path.specs.views.PathViews.{path_bytes}
use Rattle.typed_path_uses.specs.Ignore.{rule_fits, is_ignored}
use Rattle.typed_path_uses.proofs.LastRule.{fitting-decides}
use Rattle.typed_path_uses.proofs.ignore.is_ignored.Goals as goal

pub returns-clause-last : goal.returns-clause-last
returns-clause-last g c =
    let d = g.T.Encoding.dialect in
    let path = kinds (parts_of d (path_bytes c.args.path)) in
    let answer : c.rules.ignored ≡ is_ignored d path c.args.is_folder c.args.rules.now = grind (arith, common_steps) in
    λ rule is. answer ∙ fitting-decides (rule_fits d path c.args.is_folder) c.args.rules.now rule is
