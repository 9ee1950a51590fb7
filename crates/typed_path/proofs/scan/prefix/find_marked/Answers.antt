use Rattle.std.proofs.Common.{rules, ◌≡◌, option_map, ◌∙◌}
use Rattle.std.specs.Option.{option_or}
use Rattle.typed_path.specs.components.{windows, separators, verbatim_unc_case, verbatim_disk_case, verbatim_case, device_case, unc_case, disk_case}
use Rattle.typed_path.specs.views.PieceViews.{found_of}
use Rattle.typed_path.proofs.lemmas.components.Prefixes.{drive_first}
use Rattle.typed_path.proofs.scan.prefix.find_marked.Goals as goal

pub returns-in-63 : goal.returns-in-63
returns-in-63 c =
    let t = c.args.text.now in
    let s = separators windows t in
    let others = option_or (verbatim_case s t) (option_or (device_case t) (option_or (unc_case t) (disk_case t))) in
    let asked : option_map found_of c.or_else-in-63-2.result ≡ option_or (verbatim_disk_case t) (option_or (verbatim_unc_case s t) others) = search rules in
    asked ∙ drive_first s t others
