use Rattle.std.proofs.Common.{◌≡◌, ◌++◌, ◌∷◌, [], length, drop, take, refl, sym, ap, subst, ◌∙◌, length-append, arith, Some, None, not, true}
use Rattle.std.proofs.lemmas.List.{drop-append-le, drop_all, take-append-le}
use Rattle.typed_path.specs.components.{backslash, parts}
use Rattle.typed_path.specs.views.CursorViews.{items_left}
use Rattle.typed_path.specs.views.PieceViews.{part_of}
use Rattle.typed_path.proofs.lemmas.scan.Steps.{yields_first, parts-rest}
use Rattle.typed_path.proofs.lemmas.changes.MergedInPlace.{ArePut, put-relative, put-rooted, put-next, put-end}
use Rattle.typed_path.proofs.windows.push.put_each.Goals as goal
use Rattle.typed_path.proofs.windows.push.put_each.Goals.{then-not-parted+in_ok-push, else-not-parted}

pub pieces-init : goal.pieces-init
pieces-init c =
    let head = c.args.head in
    let old = c.args.text.now.items in
    let whole = drop_all head old (omega (arith, c.requires.within)) in
    elim c.if-not-parted.branch [
      | then-not-parted+in_ok-push w ↦
          let items : c.if-not-parted.text.items ≡ old ++ backslash ∷ [] = ap (λ v. v.items) w.text-is ∙ w.in_ok-push.ensures.items in
          let rest : parts (items_left c.if-not-parted.rest) ≡ drop 1 (parts (items_left c.args.path)) = ap (λ r. parts (items_left r)) w.rest-is ∙ ap parts w.front.ensures.items ∙ parts-rest (items_left c.args.path) in
          record {
            put = subst (λ b. ArePut (not b) (drop head c.if-not-parted.text.items) (parts (items_left c.args.path)) (parts (items_left c.if-not-parted.rest))) (sym w.if-not-parted.true)
                (put-rooted _ _ _ (ap (drop head) items ∙ drop-append-le head old (backslash ∷ []) (omega (arith, c.requires.within)) ∙ ap (λ t. t ++ backslash ∷ []) whole) c.requires.read
                (sym c.begins_with_root-parted.ensures ∙ w.if-not-parted.true) rest);
            kept = ap (take head) items ∙ take-append-le head old (backslash ∷ []) (omega (arith, c.requires.within));
            long = omega (arith, ap length items, length-append old (backslash ∷ []), c.requires.within);
          }
      | else-not-parted w ↦
          record {
            put = subst (λ b. ArePut (not b) (drop head c.if-not-parted.text.items) (parts (items_left c.args.path)) (parts (items_left c.if-not-parted.rest))) (sym w.if-not-parted.false)
                (subst (λ r. ArePut true (drop head c.if-not-parted.text.items) (parts (items_left c.args.path)) (parts (items_left r))) (sym w.rest-is)
                (put-relative _ _ (ap (λ v. drop head v.items) w.text-is ∙ whole) c.requires.read (sym c.begins_with_root-parted.ensures ∙ w.if-not-parted.false)));
            kept = ap (λ v. take head v.items) w.text-is;
            long = omega (arith, ap (λ v. length v.items) w.text-is, c.requires.within);
          }
    ]

pub pieces-preserved : goal.pieces-preserved
pieces-preserved c =
    let taken = yields_first part_of (Some c.in-Some.piece) (items_left c.pieces.rest) (items_left c.front-in-pieces.new.self) c.in-Some.ensures.taken c.in-Some.ensures.items in
    record {
      put = put-next (part_of c.in-Some.piece) _ _ _ c.pieces.invariant.put taken (λ ps stands is. c.in_ok-put_component.ensures.stands _ ps (part_of c.in-Some.piece) stands is refl);
      kept = c.in_ok-put_component.ensures.kept ∙ c.pieces.invariant.kept;
      long = c.in_ok-put_component.ensures.long;
    }

pub returns-clause-stands : goal.returns-clause-stands
returns-clause-stands c =
    let none = (yields_first part_of None (items_left c.pieces.rest) (items_left c.front-in-pieces.new.self) c.in_default.ensures.taken c.in_default.ensures.items).0 in
    put-end _ c.pieces.invariant.put none
