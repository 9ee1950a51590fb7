use Rattle.std.proofs.Common.{◌≡◌, ◌⊎◌, ℕ, ◌<◌, arith, length, List, [], ◌∷◌, ◌++◌, map, take, drop, slice_range, Bor, true, refl, sym, ap, subst, append-nil, ◌∙◌, Option, Some, None, option_to_list, IsSome}
use Rattle.std.proofs.lemmas.List.{map-append, drop_all}
use Rattle.typed_path.specs.declared.scan.step.Piece.{Piece}
use Rattle.typed_path.specs.declared.scan.step.PieceKind.{PieceKind}
use Rattle.typed_path.specs.declared.scan.step.PieceKind.TheVariants.{Prefix, CurDir, ParentDir, RootDir, Normal}
use Rattle.typed_path.specs.declared.scan.prefix.WindowsPrefix.{WindowsPrefix}
use Rattle.typed_path.specs.components.{windows, Part, parts, parent, parts_of}
use Rattle.typed_path.specs.changes.{push_windows}
use Rattle.typed_path.specs.places.{normal_text}
use Rattle.typed_path.specs.views.CursorViews.{items_left}
use Rattle.typed_path.specs.views.PieceViews.{part_of, kind_view}
use Rattle.typed_path.proofs.lemmas.places.Resolving.{is_head, Comes, comes-current, comes-name, comes-parent, comes-parent_alone, comes-head, comes-end}
use Rattle.typed_path.proofs.lemmas.components.WrittenForms.{heads_first-parts_of}
use Rattle.typed_path.proofs.lemmas.conversions.Crossings.{put-whole}
use Rattle.typed_path.proofs.lemmas.scan.Steps.{yields_first, fewer}
use Rattle.typed_path.proofs.windows.normal.push_heads.Goals as goal
use Rattle.typed_path.proofs.lemmas.lists.Lists.{whole_range}

-- a piece of a known kind, at the front of what the list comes down to
at_kind : {goal text : List ℕ} {names : List (List ℕ)} (p : Piece) (k : PieceKind) (old rest : List Part) → old ≡ part_of p ∷ rest → p.kind ≡ k
    → Comes windows goal text names old → Comes windows goal text names (record { kind = kind_view k p.text.now; text = p.text.now } ∷ rest)
at_kind {goal} {text} {names} p k old rest step e h = grind arith

at_parts : {goal text : List ℕ} {names : List (List ℕ)} {ps qs : List Part} → ps ≡ qs → Comes windows goal text names ps → Comes windows goal text names qs
at_parts {goal} {text} {names} e h = subst (λ rs. Comes windows goal text names rs) e h

at_text : {goal text other : List ℕ} {names : List (List ℕ)} {ps : List Part} → text ≡ other → Comes windows goal text names ps → Comes windows goal other names ps
at_text {goal} {names = names} {ps = ps} e h = subst (λ t. Comes windows goal t names ps) e h

-- the empty path comes down to the whole list
comes-start : (path text : List ℕ) (names : List (List ℕ)) (ps : List Part) → text ≡ [] → names ≡ [] → ps ≡ parts_of windows path → Comes windows (normal_text windows path) text names ps
comes-start path text names ps no_text no_names all =
    subst (λ t. Comes windows (normal_text windows path) t names ps) (sym no_text)
    (subst (λ ns. Comes windows (normal_text windows path) [] ns ps) (sym no_names)
    (subst (λ qs. Comes windows (normal_text windows path) [] [] qs) (sym all) (record { written = refl; heads = heads_first-parts_of windows path })))

is_head-piece : (p : Piece) → ((x : WindowsPrefix) × (p.kind ≡ Prefix x)) ⊎ (p.kind ≡ RootDir) → is_head (kind_view p.kind p.text.now) ≡ true
is_head-piece p h = grind arith

no_some : IsSome {T = Bor (List ℕ)} None → ⊥
no_some h = cc

-- a parent, once the last name was taken off where there is one
comes-popped : {goal text word : List ℕ} {ps : List Part} (last : Option (Bor (List ℕ))) (old new : List (Bor (List ℕ)))
    → old ≡ new ++ option_to_list last → (0 < length old → IsSome last)
    → Comes windows goal text (map (λ n. n.now) old) (record { kind = parent; text = word } ∷ ps) → Comes windows goal text (map (λ n. n.now) new) ps
comes-popped {goal} {text} {word} {ps} None [] new e some h =
    subst (λ ns. Comes windows goal text (map (λ n. n.now) ns) ps) (e ∙ append-nil new) (comes-parent_alone h)
comes-popped None (n ∷ ns) new e some h = absurd (no_some (some (omega arith)))
comes-popped {goal} {text} {word} {ps} (Some n) old new e some h =
    comes-parent n.now (subst (λ ns. Comes windows goal text ns (record { kind = parent; text = word } ∷ ps)) (ap (map (λ n. n.now)) e ∙ map-append (λ n. n.now) new (n ∷ [])) h)

pub pieces-init : goal.pieces-init
pieces-init c = (
  comes-start c.args.path.now _ _ _ (drop_all c.args.start c.args.text.now.items (omega (arith, c.requires))) (ap (map (λ n. n.now)) c.in_ok-names.ensures.items) (ap parts c.of_windows-components.ensures.items),
  refl,
  omega (arith, c.requires),
  omega arith,
)

pub pieces-preserved-in-Continue-branch-2 : goal.pieces-preserved-in-Continue-branch-2
pieces-preserved-in-Continue-branch-2 c =
    let start = c.args.start in
    let text = c.pieces.text.items in
    let piece = c.in-Some.piece in
    let taken = yields_first part_of (Some piece) (items_left c.pieces.components) (items_left c.front.new.self) c.in-Some.ensures.taken c.in-Some.ensures.items in
    let range : slice_range text start c.len-len.result ≡ drop start text = ap (slice_range text start) (omega (arith, c.len-len.ensures, c.pieces.text.ok)) ∙ whole_range text text start refl in
    let whole = put-whole start text c.push_at.new.text.items (push_windows (drop start text) piece.text.now) c.pieces.invariant.2
    (c.in_ok-push_at-in-Prefix.ensures.ok tt ∙ ap (λ t. take start text ++ push_windows t piece.text.now) range) in (
      at_text (sym whole.0) (comes-head (is_head-piece piece c.in-Prefix.is) (at_parts taken c.pieces.invariant.0)),
      whole.1 ∙ c.pieces.invariant.1,
      whole.2,
      omega (arith, c.in_ok-push_at-in-Prefix.ensures.capacity, c.pieces.invariant.3),
    )

pub pieces-smaller-in-CurDir : goal.pieces-smaller-in-CurDir
pieces-smaller-in-CurDir c = fewer (part_of c.in-Some.piece) (items_left c.pieces.components) (items_left c.front.new.self) c.in-Some.ensures.taken c.in-Some.ensures.items

pub pieces-preserved-in-CurDir : goal.pieces-preserved-in-CurDir
pieces-preserved-in-CurDir c =
    let taken = yields_first part_of (Some c.in-Some.piece) (items_left c.pieces.components) (items_left c.front.new.self) c.in-Some.ensures.taken c.in-Some.ensures.items in
    (comes-current (at_kind c.in-Some.piece CurDir _ _ taken c.in-CurDir.is c.pieces.invariant.0), c.pieces.invariant.1, c.pieces.invariant.2, c.pieces.invariant.3)

pub pieces-preserved-in-ParentDir : goal.pieces-preserved-in-ParentDir
pieces-preserved-in-ParentDir c =
    let taken = yields_first part_of (Some c.in-Some.piece) (items_left c.pieces.components) (items_left c.front.new.self) c.in-Some.ensures.taken c.in-Some.ensures.items in (
      comes-popped c.pop.result _ _ c.pop.ensures.items (λ h. c.pop.ensures.variant.1 (omega (arith, h, c.pieces.names.ok))) (at_kind c.in-Some.piece ParentDir _ _ taken c.in-ParentDir.is c.pieces.invariant.0),
      c.pieces.invariant.1,
      c.pieces.invariant.2,
      c.pieces.invariant.3,
    )

pub pieces-preserved : goal.pieces-preserved
pieces-preserved c =
    let taken = yields_first part_of (Some c.in-Some.piece) (items_left c.pieces.components) (items_left c.front.new.self) c.in-Some.ensures.taken c.in-Some.ensures.items in (
      subst (λ ns. Comes windows (normal_text windows c.args.path.now) (drop c.args.start c.pieces.text.items) ns (parts (items_left c.front.new.self)))
          (sym (ap (map (λ n. n.now)) c.in_ok-push-in-Normal.ensures.items ∙ map-append (λ n. n.now) c.pieces.names.items (c.in-Some.piece.text ∷ [])))
          (comes-name (at_kind c.in-Some.piece Normal _ _ taken c.in-Normal.is c.pieces.invariant.0)),
      c.pieces.invariant.1,
      c.pieces.invariant.2,
      c.pieces.invariant.3,
    )

pub returns-clause-ok : goal.returns-clause-ok
returns-clause-ok c =
    let all = (yields_first part_of None (items_left c.pieces.components) (items_left c.front.new.self) c.in_default.ensures.taken c.in_default.ensures.items).0 in
    comes-end (at_parts all c.pieces.invariant.0)
