use Rattle.std.proofs.Common.{◌≡◌, ◌∷◌, ◌++◌, [], fold, refl, arith, ◌∙◌, List, ℕ, None, subst}
use Rattle.std.proofs.lemmas.Result.{IfOk-weaker}
use Rattle.typed_path.specs.declared.scan.separators.Separators.TheVariants.{Either}
use Rattle.typed_path.specs.components.{drive, slash, backslash}
use Rattle.typed_path.specs.places.{AreRowsOf, ArePut, HaveNoDisks, rows_of, settled}
use Rattle.typed_path.proofs.lemmas.components.Segments.{pieces}
use Rattle.typed_path.proofs.lemmas.places.UnixRows.{Standing, standing-start, standing-step, standing-over, standing-end, standing-each}
use Rattle.typed_path.proofs.lemmas.places.NamedRows.{standing-put, standing-whole, whole-each, put-drives, free-pieces}
use Rattle.typed_path.proofs.windows.normal.put_undriven.Goals as goal
use Rattle.typed_path.proofs.lemmas.lists.Lists.{kept-front}

-- no drive is at the front
abbrev IsNoDrive : List ℕ → Type 0
IsNoDrive name = drive name ≡ None

-- what stands once the names in front of a rest are put and the segment behind them is settled
turn-standing : (text put new head rest left segment behind next path : List ℕ) → HaveNoDisks (pieces Either rest) → Standing Either IsNoDrive text head rest path → ArePut Either text put (pieces Either rest) (pieces Either left)
    → pieces Either left ≡ segment ∷ pieces Either behind → pieces Either segment ≡ segment ∷ [] → IsNoDrive segment
    → ((names : List (List ℕ)) → AreRowsOf Either put head names → new ≡ head ++ rows_of Either (settled names segment))
    → ((names : List (List ℕ)) → fold settled names (pieces Either behind) ≡ fold settled names (pieces Either next)) → Standing Either IsNoDrive new head next path
turn-standing text put new head rest left segment behind next path every stands is split alone own settles same =
    standing-over Either IsNoDrive new head behind next path same
    (standing-step Either IsNoDrive put new head left behind segment path split alone own settles (standing-put Either IsNoDrive text put head rest path every stands left is))

pub segments-init : goal.segments-init
segments-init c = grind (arith, standing-start, free-pieces)

pub segments-preserved : goal.segments-preserved
segments-preserved c =
    let put = rw c.in-Some.is at c.in_ok-left.ensures.ok in
    let room = rw c.in-Some.is at c.in_ok-left.ensures.room in
    let drives = subst HaveNoDisks c.in-Some-cut_at_separator.ensures.pieces (put-drives _ _ _ _ put c.segments.invariant.drives) in
    record {
      standing = λ head size are.
          turn-standing _ _ _ head c.segments.rest.now c.in-Some.left.now c.in-Some-cut_at_separator.segment.now c.in-Some-cut_at_separator.behind.now c.behind_segment-rest.result.now c.args.path.now c.segments.invariant.drives (c.segments.invariant.standing head size are) put
          c.in-Some-cut_at_separator.ensures.pieces c.in-Some-cut_at_separator.ensures.open drives.0
          (λ names. c.in_ok-put_segment.ensures.ok (c.in_ok-put_segment.ensures.told drives.0) head names size) c.behind_segment-rest.ensures.same;
      kept = c.put_segment-in-Some.ensures.kept ∙ kept-front c.args.len c.segments.text.items _ c.segments.invariant.long c.put_names.ensures.front ∙ c.segments.invariant.kept;
      long = c.put_segment-in-Some.ensures.long;
      capacity = omega (arith, c.segments.invariant.capacity, c.put_names.ensures.capacity, c.put_segment-in-Some.ensures.capacity);
      room = λ fits. omega (arith, c.segments.invariant.room fits, room, c.put_names.ensures.capacity, c.put_segment-in-Some.ensures.room, c.put_segment-in-Some.ensures.capacity, c.in-Some-cut_at_separator.ensures.sizes, c.behind_segment-rest.ensures.shorter);
      drives = c.behind_segment-rest.ensures.drives drives.1;
      names = c.leading_short_names-names.ensures;
    }

pub returns-clause-ok : goal.returns-clause-ok
returns-clause-ok c = grind (arith, whole-each, standing-whole)

pub returns-in_default-cut_at_separator-clause-ok : goal.returns-in_default-cut_at_separator-clause-ok
returns-in_default-cut_at_separator-clause-ok c =
    let put = rw c.in-Some.is at c.in_ok-left.ensures.ok in
    let own = (subst HaveNoDisks c.in_default-cut_at_separator.ensures.pieces (put-drives _ _ _ _ put c.segments.invariant.drives)).0 in
    IfOk-weaker c.put_segment.result _ _
    (λ plain settles done head size are.
    let stands = standing-put Either IsNoDrive _ _ head c.segments.rest.now c.args.path.now c.segments.invariant.drives (c.segments.invariant.standing head size are) c.in-Some.left.now put in
    record {
      drives = standing-each Either IsNoDrive _ head c.in-Some.left.now c.args.path.now c.in_default-cut_at_separator.ensures.pieces own stands;
      is = standing-end Either IsNoDrive _ _ head c.in-Some.left.now c.args.path.now c.in_default-cut_at_separator.ensures.pieces (λ names. settles done head names size) stands;
    })
    c.put_segment.ensures.ok

pub returns-in_default-cut_at_separator-clause-told : goal.returns-in_default-cut_at_separator-clause-told
returns-in_default-cut_at_separator-clause-told c = grind (arith, pieces, put-drives)

pub put_names-requires : goal.put_names-requires
put_names-requires c = ((slash, backslash), λ b. refl, c.segments.invariant.names)

pub returns-then-matches-clause-ok : goal.returns-then-matches-clause-ok
returns-then-matches-clause-ok c =
    let put = rw c.in-Some.is at c.in_ok-left.ensures.ok in
    let drives = subst HaveNoDisks c.in-Some-cut_at_separator.ensures.pieces (put-drives _ _ _ _ put c.segments.invariant.drives) in
    IfOk-weaker c.put_one_by_one.result _ _
    (λ plain puts done head size are.
    let stands = turn-standing _ _ _ head c.segments.rest.now c.in-Some.left.now c.in-Some-cut_at_separator.segment.now c.in-Some-cut_at_separator.behind.now c.behind_segment-rest.result.now c.args.path.now c.segments.invariant.drives (c.segments.invariant.standing head size are) put
    c.in-Some-cut_at_separator.ensures.pieces c.in-Some-cut_at_separator.ensures.open drives.0
    (λ names. c.in_ok-put_segment.ensures.ok (c.in_ok-put_segment.ensures.told drives.0) head names size) c.behind_segment-rest.ensures.same in
    puts done head c.args.path.now stands.names size stands.rows stands.each stands.left)
    c.put_one_by_one.ensures.ok

pub returns-then-matches-clause-told : goal.returns-then-matches-clause-told
returns-then-matches-clause-told c = grind (arith, pieces, put-drives)
