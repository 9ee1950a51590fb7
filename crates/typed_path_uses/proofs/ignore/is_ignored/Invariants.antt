use Rattle.std.proofs.Common.{◌≡◌, not, fold, drop}
use Rattle.std.specs.List.{filter}
use Rattle.typed_path.specs.components.{kinds, parts_of}
use Rattle.typed_path.specs.views.PathViews.{path_bytes}
use Rattle.typed_path_uses.specs.Ignore.{rule_fits, is_ignored}
use Rattle.typed_path_uses.proofs.ignore.is_ignored.Given as goal

abbrev pub invariant-rules : goal.invariant-rules
invariant-rules g l =
    let d = g.T.Encoding.dialect in
    let path = kinds (parts_of d (path_bytes l.path)) in
    fold (λ earlier rule. not rule.is_back) l.ignored (filter (rule_fits d path l.is_folder) (drop l.rule-index l.rules))
    ≡ is_ignored d path l.is_folder l.rules
