use Rattle.std.proofs.Common.{◌++◌, Some, drop, refl, ap, sym, ◌∙◌, arith}
use Rattle.std.proofs.lemmas.List.{take_rest}
use Rattle.typed_path.specs.declared.scan.separators.Separators.TheVariants.{Slash}
use Rattle.typed_path.specs.components.{body, later_body, unix}
use Rattle.typed_path.proofs.lemmas.queries.Bases.{stripped-not, stripped-split}
use Rattle.typed_path.proofs.unix.encoding.UnixEncodingEncoding.strip_by_bytes.Goals as goal
use Rattle.typed_path.proofs.lemmas.components.Cuts.{body-filled}

pub returns-in-Some : goal.returns-in-Some
returns-in-Some c =
    let path = c.args.path.now in
    let base = body Slash 0 c.args.base.now in
    let end = c.in-Some.end in
    let told = c.in-Some.ensures in
    stripped-split unix Slash path c.args.base.now end base (body-filled Slash 0 c.args.base.now told.some) refl
    (told.items 0 ∙ ap (λ k. base ++ later_body Slash k (drop end path)) (omega arith)) told.clean
    ∙ ap Some (sym (take_rest path end))

pub returns-then-are_apart : goal.returns-then-are_apart
returns-then-are_apart c = stripped-not unix c.args.path.now c.args.base.now (c.are_apart.ensures c.if-are_apart.true)
