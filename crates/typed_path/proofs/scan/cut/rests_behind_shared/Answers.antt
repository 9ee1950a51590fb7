use Rattle.std.proofs.Common.{◌-◌, length, take, drop, subst, sym}
use Rattle.typed_path.specs.places.{PartInto}
use Rattle.typed_path.proofs.lemmas.places.NearSteps.{longer-into, parted-into, shorter-into}
use Rattle.typed_path.proofs.scan.cut.rests_behind_shared.Goals as goal

pub returns-in-Some : goal.returns-in-Some
returns-in-Some c =
    let t = c.args.text.now in
    let n = c.in-Some.end in
    subst (PartInto c.args.separators t c.args.other.now (take (length t - n) (drop n t))) (sym c.as_slice.ensures) (longer-into c.args.separators t c.args.other.now n (c.in-Some.ensures.items 0))

pub returns-in-Some-end_behind : goal.returns-in-Some-end_behind
returns-in-Some-end_behind c =
    let t = c.args.other.now in
    let n = c.in-Some-end_behind.end in
    subst (λ v. PartInto c.args.separators c.args.text.now t v (take (length t - n) (drop n t))) (sym c.as_slice-in-Some-end_behind.ensures)
    (shorter-into c.args.separators t c.args.text.now n (c.in-Some-end_behind.ensures.items 0))

pub returns : goal.returns
returns c =
    let told = c.in_ok-_order.ensures in
    parted-into c.args.separators c.args.text.now c.args.other.now c.first_difference-shared.result c.last_start-start.result c.in_ok-_order._order
    (c.first_difference-shared.ensures, c.last_start-start.ensures.last, c.last_start-start.ensures.within) told.1 told.0
