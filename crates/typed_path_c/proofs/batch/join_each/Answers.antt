use Rattle.std.proofs.Common.{inl, inr, arith}
use Rattle.typed_path.specs.typed.{typed_dialect}
use Rattle.typed_path.specs.views.TypedViews.{typed_bytes}
use Rattle.typed_path_c.proofs.Batches.{none-run, runs-on, ended-all, ended-ill, ended-full, ended-err, length-run}
use Rattle.typed_path_c.proofs.batch.join_each.Goals as goal
use Rattle.typed_path_c.proofs.batch.join_each.Goals.{then-out_ends-done-via-then-out_ends-done, then-out_ends-done-via-else-out_ends-done+then-statuses-done}

pub names-init : goal.names-init
names-init c = none-run c.args.rule (typed_dialect c.args.base) (typed_bytes c.args.base) c.args.names.now c.args.ends.now c.args.out.now c.args.out_ends.now c.args.statuses.now c.args.done.now c.requires

pub join_one-requires : goal.join_one-requires
join_one-requires c = length-run _ _ _ _ _ _ _ _ _ _ _ _ _ _ c.names.invariant

pub names-smaller : goal.names-smaller
names-smaller c = omega (arith, c.names-test.true)

pub names-preserved : goal.names-preserved
names-preserved c =
    runs-on c.args.rule (typed_dialect c.args.base) (typed_bytes c.args.base) c.args.names.now c.args.ends.now c.args.out.now c.names.out c.args.out_ends.now c.names.out_ends c.args.statuses.now c.names.statuses
    c.join_one.new.out c.names.done c.names.start c.names.at c.in-Ok.joined.end c.in-Ok.joined.status c.names.invariant c.names-test.true
    (omega (arith, c.if-end-start.false)) (omega (arith, c.if-names-end.false))
    c.in-Ok.ensures.end c.in-Ok.ensures.within c.in-Ok.ensures.status c.in-Ok.ensures.put
    (omega (arith, c.if-out_ends-done.false)) (omega (arith, c.if-statuses-done.false))

pub returns : goal.returns
returns c = ended-all _ _ _ _ _ _ _ _ _ _ _ _ _ _ c.names.invariant (omega (arith, c.names-test.false))

pub returns-then-end-start : goal.returns-then-end-start
returns-then-end-start c = ended-ill _ _ _ _ _ _ _ _ _ _ _ _ _ _ c.names.invariant c.names-test.true c.then-end-start.either

pub returns-then-out_ends-done : goal.returns-then-out_ends-done
returns-then-out_ends-done c = ended-full _ _ _ _ _ _ _ _ _ _ _ _ _ _ c.names.invariant c.names-test.true (omega (arith, c.if-end-start.false)) (omega (arith, c.if-names-end.false))
    (elim c.then-out_ends-done.branch [
      | then-out_ends-done-via-then-out_ends-done w ↦ inl w.if-out_ends-done.true
      | then-out_ends-done-via-else-out_ends-done+then-statuses-done w ↦ inr (omega (arith, w.if-out_ends-done.false), w.if-statuses-done.true)
    ])

pub returns-in-Err : goal.returns-in-Err
returns-in-Err c = ended-err _ _ _ _ _ _ _ _ _ _ _ _ _ _ c.names.invariant c.names-test.true (omega (arith, c.if-end-start.false)) (omega (arith, c.if-names-end.false))
    c.join_one.new.out c.in-Err.status c.in-Err.ensures.kept (omega (arith, c.if-out_ends-done.false)) (omega (arith, c.if-statuses-done.false)) c.in-Err.ensures.why
