use Rattle.std.proofs.Common.{◌+◌, ◌≡◌, ◌∙◌}
use Rattle.std.specs.Str.{str_to_ascii_lowercase}
use Rattle.typed_path.proofs.lemmas.scan.LowerCase.{chunk-lowered, fits-lowered, marks-of}
use Rattle.typed_path.proofs.scan.lanes.lowered_differences_at.Goals as goal
use lib.Lanes.{chunk}

pub returns-clause-mask : goal.returns-clause-mask
returns-clause-mask g c =
    let at = c.args.at in
    let n = g.row.N in
    let t = str_to_ascii_lowercase c.args.text.now in
    let u = str_to_ascii_lowercase c.args.other.now in
    let own : c.in_lower_case-own.result ≡ chunk at n t = c.in_lower_case-own.ensures ∙ chunk-lowered at n c.args.text.now in
    let others : c.in_lower_case-others.result ≡ chunk at n u = c.in_lower_case-others.ensures ∙ chunk-lowered at n c.args.other.now in
    rw (own, others) (marks-of at n t u c.requires.lanes.1 (fits-lowered (at + n) c.args.text.now c.requires.in_text) (fits-lowered (at + n) c.args.other.now c.requires.in_other))
