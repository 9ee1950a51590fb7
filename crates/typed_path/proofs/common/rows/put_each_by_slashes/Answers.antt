use Rattle.std.proofs.Common.{◌∙◌, arith}
use Rattle.typed_path.specs.declared.scan.separators.Separators.TheVariants.{Slash}
use Rattle.typed_path.proofs.lemmas.places.CleanRows.{kept-next, kept-last}
use Rattle.typed_path.proofs.common.rows.put_each_by_slashes.Goals as goal
use Rattle.typed_path.proofs.lemmas.lists.Lists.{kept-shorter}

pub segments-preserved : goal.segments-preserved
segments-preserved c =
    let was = c.segments.invariant in
    let did = c.in_ok-begin.ensures in
    record {
      are = λ head whole given.
          kept-next Slash c.args.anchored head c.segments.text.items _ c.segments.begin c.in_ok-begin.begin whole c.segments.rest.now c.in-Some.segment.now c.in-Some.behind.now c.behind_segment-rest.result.now c.in-Some.ensures.pieces
          (λ left. did.ok head left whole c.in-Some.ensures.open) c.behind_segment-rest.ensures.same (was.are head whole given);
      above = omega (arith, was.above, did.within.0);
      within = did.within.1;
      kept = kept-shorter c.args.floor c.segments.begin _ _ was.above did.kept ∙ was.kept;
      room = omega (arith, was.room, did.room, c.in-Some.ensures.sizes, c.behind_segment-rest.ensures.shorter);
      capacity = omega (arith, was.capacity, did.capacity);
    }

pub returns-clause-ok : goal.returns-clause-ok
returns-clause-ok c = λ head whole given.
    kept-last Slash c.args.anchored head c.segments.text.items _ c.segments.begin _ whole c.segments.rest.now c.in_default.ensures.pieces
    (λ left. c.in_ok-put_segment.ensures.ok head left whole c.in_default.ensures.pieces) (c.segments.invariant.are head whole given)

pub returns-clause-kept : goal.returns-clause-kept
returns-clause-kept c = kept-shorter c.args.floor c.segments.begin _ _ c.segments.invariant.above c.put_segment-2.ensures.kept ∙ c.segments.invariant.kept
