use Rattle.std.proofs.Common.{◌<◌, ◌-◌, length, drop, sym, ap, ◌∙◌, arith, reverse, true≢false, false, vec_len, vec_capacity}
use Rattle.typed_path.specs.views.BodyViews.{body_items}
use Rattle.typed_path.specs.places.{names_under, rows_of}
use Rattle.typed_path.proofs.lemmas.places.KeptFromBack.{names-alone}
use Rattle.typed_path.proofs.lemmas.places.TakenNames.{none-behind, none-taken, row-fits, row-size, some-left, took, turned-row}
use Rattle.typed_path.proofs.common.relative.put_names.Goals as goal
use Rattle.typed_path.proofs.common.relative.put_names.Goals.{in-Some+in_ok-put_reversed, in_default}

pub names-init : goal.names-init
names-init c = grind (arith, none-taken, none-behind)

pub names-preserved : goal.names-preserved
names-preserved c =
    let s = c.args.separators in
    let whole = names_under 0 (body_items c.args.rest) in
    let left = names_under c.names.owed (body_items c.names.rest) in
    let next = names_under c.last_name.new.owed (body_items c.last_name.new.rest) in
    let less : c.names.counter < length whole = omega (arith, c.names-test.true, c.requires.count, ap length (names-alone (body_items c.args.rest))) in
    elim c.match-last_name.branch [
      | in-Some+in_ok-put_reversed w ↦
          let step = took (λ x. x.now) whole left next c.names.counter w.in-Some.name c.names.invariant.left less w.in-Some.ensures.name in
          record {
            left = step.left;
            fits = omega (arith, c.last_name.ensures.within, c.names.invariant.fits);
            put = ap (λ v. reverse v.items) w.text-is
                ∙ turned-row s w.put_reversed.new.text.items c.names.text.items w.in-Some.name.now (drop (length whole - c.names.counter) whole) w.in_ok-put_reversed.ensures.ok c.names.invariant.put
                ∙ ap (rows_of s) (sym step.taken);
            room = omega (arith, ap vec_len w.text-is, w.in_ok-put_reversed.ensures.room, c.names.invariant.room, row-size s w.in-Some.name.now (drop (length whole - c.names.counter) whole), ap (λ ns. length (rows_of s ns)) step.taken);
            capacity = omega (arith, ap vec_capacity w.text-is, w.put_reversed.ensures.capacity, c.names.invariant.capacity);
          }
      | in_default w ↦ absurd (some-left whole left c.names.counter c.names.invariant.left less w.in_default.ensures.name)
    ]

pub returns-in_err-put_reversed-clause-succeeds : goal.returns-in_err-put_reversed-clause-succeeds
returns-in_err-put_reversed-clause-succeeds c = λ fits.
    let s = c.args.separators in
    let whole = names_under 0 (body_items c.args.rest) in
    let left = names_under c.names.owed (body_items c.names.rest) in
    let next = names_under c.last_name.new.owed (body_items c.last_name.new.rest) in
    let less : c.names.counter < length whole = omega (arith, c.names-test.true, c.requires.count, ap length (names-alone (body_items c.args.rest))) in
    let step = took (λ x. x.now) whole left next c.names.counter c.in-Some.name c.names.invariant.left less c.in-Some.ensures.name in
    let row = row-fits s whole c.names.counter c.args.count c.in-Some.name.now (omega (arith, c.names-test.true)) step.taken in
    let same = ap (λ ns. length (rows_of s (drop (length ns - c.args.count) ns))) (names-alone (body_items c.args.rest)) in
    absurd (true≢false (sym {a = false} (c.in_err-put_reversed.ensures.succeeds (omega (arith, fits, row, same, c.names.invariant.room, c.names.invariant.capacity)))))
