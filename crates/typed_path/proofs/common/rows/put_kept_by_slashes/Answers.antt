use Rattle.std.proofs.Common.{rules, ◌≡◌, ◌∙◌, length, refl, arith}
use Rattle.std.proofs.lemmas.List.{take_all}
use Rattle.std.proofs.lemmas.Result.{on_ok_weaker}
use Rattle.typed_path.specs.declared.scan.separators.Separators.TheVariants.{Slash}
use Rattle.typed_path.specs.places.{segment_kinds}
use Rattle.typed_path.proofs.lemmas.components.Segments.{pieces}
use Rattle.typed_path.proofs.lemmas.places.CleanRows.{alike-settled, kept-start, kept-alike, kept-next, kept-last, kept-end, kept-names_put}
use Rattle.typed_path.proofs.common.rows.put_kept_by_slashes.Goals as goal
use Rattle.typed_path.proofs.lemmas.lists.Lists.{kept-front, kept-shorter}

pub segments-init : goal.segments-init
segments-init c =
    let text = c.args.text.now.items in
    let path = c.args.path.now in
    let h = c.behind_segment-rest in
    let size : c.len-floor.result ≡ length text = omega (arith, c.len-floor.ensures, c.args.text.now.ok) in
    record {
      are = kept-alike Slash c.args.anchored text text c.len-floor.result (segment_kinds Slash path) (segment_kinds Slash path) _ (alike-settled (pieces Slash path) _ h.ensures.same)
          (kept-start Slash c.args.anchored text text c.len-floor.result (segment_kinds Slash path) refl size);
      above = omega (arith, size);
      within = omega (arith, size);
      kept = take_all (length text) text (omega arith);
      room = omega (arith, h.ensures.shorter);
      capacity = omega arith;
    }

pub segments-preserved : goal.segments-preserved
segments-preserved c =
    let was = c.segments.invariant in
    let put = rw c.in-Some.is at c.in_ok-left.ensures.ok in
    let room = rw c.in-Some.is at c.in_ok-left.ensures.room in
    let did = c.in_ok-floor.ensures in
    let text = c.args.text.now.items in
    let whole = segment_kinds Slash c.args.path.now in
    let there = kept-names_put Slash c.args.anchored text c.segments.text.items _ c.segments.floor whole c.segments.rest.now (pieces Slash c.in-Some.left.now) put was.are in
    record {
      are = kept-next Slash c.args.anchored text _ _ c.segments.floor c.in_ok-floor.floor whole c.in-Some.left.now c.in-Some-cut_at_separator.segment.now c.in-Some-cut_at_separator.behind.now c.behind_segment-rest-in-segments.result.now
          c.in-Some-cut_at_separator.ensures.pieces (λ left. did.ok text left whole c.in-Some-cut_at_separator.ensures.open) c.behind_segment-rest-in-segments.ensures.same there;
      above = omega (arith, was.above, did.within.0);
      within = did.within.1;
      kept =
          kept-shorter (length text) c.segments.floor _ _ was.above c.put_segment-in-segments.ensures.kept
          ∙ kept-front (length text) c.segments.text.items _ (omega (arith, was.above, was.within)) c.put_names.ensures.front
          ∙ was.kept;
      room = omega (arith, was.room, room, did.room, c.in-Some-cut_at_separator.ensures.sizes, c.behind_segment-rest-in-segments.ensures.shorter);
      capacity = omega (arith, was.capacity, c.put_names.ensures.capacity, did.capacity);
    }

pub returns-then-matches-clause-puts : goal.returns-then-matches-clause-puts
returns-then-matches-clause-puts c = record {
  ok = on_ok_weaker c.put_each_by_slashes.result (λ puts. puts c.args.text.now.items (segment_kinds Slash c.args.path.now) c.segments.invariant.are) c.put_each_by_slashes.ensures.ok;
  kept = kept-shorter (length c.args.text.now.items) c.segments.floor _ _ c.segments.invariant.above c.put_each_by_slashes.ensures.kept ∙ c.segments.invariant.kept;
  capacity = search rules;
  succeeds = search rules;
}

pub returns-in_default-2-clause-puts : goal.returns-in_default-2-clause-puts
returns-in_default-2-clause-puts c =
    let text = c.args.text.now.items in
    record {
      ok =
          kept-end Slash c.args.anchored text _ c.segments.floor (segment_kinds Slash c.args.path.now)
          (kept-names_put Slash c.args.anchored text c.segments.text.items _ c.segments.floor (segment_kinds Slash c.args.path.now) c.segments.rest.now _ (rw c.in_default-2.is at c.in_ok-left.ensures.ok) c.segments.invariant.are);
      kept = kept-front (length text) c.segments.text.items _ (omega (arith, c.segments.invariant.above, c.segments.invariant.within)) c.put_names.ensures.front ∙ c.segments.invariant.kept;
      capacity = search rules;
      succeeds = λ _. refl;
    }

pub returns-in_default-cut_at_separator-clause-puts : goal.returns-in_default-cut_at_separator-clause-puts
returns-in_default-cut_at_separator-clause-puts c =
    let text = c.args.text.now.items in
    let whole = segment_kinds Slash c.args.path.now in
    let put = rw c.in-Some.is at c.in_ok-left.ensures.ok in
    let there = kept-names_put Slash c.args.anchored text c.segments.text.items _ c.segments.floor whole c.segments.rest.now (pieces Slash c.in-Some.left.now) put c.segments.invariant.are in
    record {
      ok =
          kept-last Slash c.args.anchored text _ _ c.segments.floor _ whole c.in-Some.left.now c.in_default-cut_at_separator.ensures.pieces
          (λ left. c.in_ok-put_segment.ensures.ok text left whole c.in_default-cut_at_separator.ensures.pieces) there;
      kept = kept-shorter (length text) c.segments.floor _ _ c.segments.invariant.above c.in_ok-put_segment.ensures.kept ∙ kept-front (length text) c.segments.text.items _ (omega (arith, c.segments.invariant.above, c.segments.invariant.within)) c.put_names.ensures.front ∙ c.segments.invariant.kept;
      capacity = search rules;
      succeeds = λ _. refl;
    }
