use Rattle.std.proofs.Common.{◌≡◌, ◌∙◌, List, ℕ, None, Bool, IfOk, refl, subst, arith, Result}
use Rattle.typed_path.specs.declared.scan.separators.Separators.TheVariants.{Either}
use Rattle.typed_path.specs.components.{drive}
use Rattle.typed_path.specs.places.{HaveNoDisks}
use Rattle.typed_path.proofs.lemmas.places.UnixRows.{standing-step, standing-over, standing-end, standing-each}
use Rattle.typed_path.proofs.windows.normal.put_one_by_one.Goals as goal

-- no drive is at the front
abbrev IsNoDrive : List ℕ → Type 0
IsNoDrive name = drive name ≡ None

pub segments-init : goal.segments-init
segments-init c = record { standing = λ head whole size stands. stands; kept = refl; long = c.requires; capacity = omega arith; room = λ fits. fits; drives = λ none. none }

pub segments-preserved : goal.segments-preserved
segments-preserved c = record {
  standing = λ head whole size stands.
      standing-over Either IsNoDrive _ head c.in-Some.behind.now _ whole c.behind_segment-rest.ensures.same
      (standing-step Either IsNoDrive _ _ head _ c.in-Some.behind.now c.in-Some.segment.now whole c.in-Some.ensures.pieces c.in-Some.ensures.open (c.in_ok-put_segment.ensures.plain c.if-not-branch.false)
      (λ names. c.in_ok-put_segment.ensures.ok c.if-not-branch.false head names size) (c.segments.invariant.standing head whole size stands));
  kept = c.put_segment.ensures.kept ∙ c.segments.invariant.kept;
  long = c.put_segment.ensures.long;
  capacity = omega (arith, c.segments.invariant.capacity, c.put_segment.ensures.capacity);
  room = λ fits. omega (arith, c.segments.invariant.room fits, c.put_segment.ensures.room, c.put_segment.ensures.capacity, c.in-Some.ensures.sizes, c.behind_segment-rest.ensures.shorter);
  drives = λ none. c.behind_segment-rest.ensures.drives (subst HaveNoDisks c.in-Some.ensures.pieces (c.segments.invariant.drives none)).1;
}

-- the segment that comes begins with no drive
pub returns-then-not-branch-clause-told : goal.returns-then-not-branch-clause-told
returns-then-not-branch-clause-told c = grind arith

pub returns-clause-told : goal.returns-clause-told
returns-clause-told c = λ none. c.put_segment-2.ensures.told (subst HaveNoDisks c.in_default.ensures.pieces (c.segments.invariant.drives none)).0

-- what holds on success of two things holds of what follows from them
on_ok : {E : Type 0} {P Q R : Bool → Type 0} (r : Result Bool E) → ((x : Bool) → P x → Q x → R x) → IfOk r P → IfOk r Q → IfOk r R
on_ok r f p q = grind arith

pub returns-clause-ok : goal.returns-clause-ok
returns-clause-ok c =
    on_ok c.put_segment-2.result
    (λ x settles own done head whole names size are none left.
    let stands = c.segments.invariant.standing head whole size (record { names = names; rows = are; each = none; left = left }) in
    record {
      drives = standing-each Either IsNoDrive _ head _ whole c.in_default.ensures.pieces (own done) stands;
      is = standing-end Either IsNoDrive _ _ head _ whole c.in_default.ensures.pieces (λ ns. settles done head ns size) stands;
    })
    c.put_segment-2.ensures.ok c.put_segment-2.ensures.plain
