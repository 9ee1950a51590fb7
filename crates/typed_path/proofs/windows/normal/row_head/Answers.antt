use Rattle.std.proofs.Common.{◌≡◌, ◌++◌, false, true≢false, refl, ap, sym, subst, ◌∙◌}
use Rattle.typed_path.specs.declared.scan.prefix.WindowsPrefix.{WindowsPrefix}
use Rattle.typed_path.specs.declared.scan.prefix.WindowsPrefix.TheVariants.{Disk}
use Rattle.typed_path.specs.components.{windows}
use Rattle.typed_path.specs.queries.{is_disk}
use Rattle.typed_path.specs.places.{IsRowHead}
use Rattle.typed_path.specs.views.PieceViews.{found_of, prefix_view}
use Rattle.typed_path.proofs.lemmas.components.Prefixes.{prefix-fits}
use Rattle.typed_path.proofs.lemmas.components.PartedPrefixes.{head-cut, plain-takes}
use Rattle.typed_path.proofs.lemmas.components.PrefixCuts.{verbatim-some}
use Rattle.typed_path.proofs.lemmas.places.WindowsRows.{none-head, drive-head, marked-head}
use Rattle.typed_path.proofs.windows.normal.row_head.Goals as goal

pub returns-in_default-clause-rows : goal.returns-in_default-clause-rows
returns-in_default-clause-rows c =
    let head = c.head_behind.result in
    subst (λ p. IsRowHead c.args.path.now (p ++ head.root.now) head.rest.now) (sym c.head_behind.ensures.prefix)
    (none-head c.args.path.now head.root.now head.rest.now (sym c.in_default.ensures) c.head_behind.ensures.parted)

pub head_behind-head-requires : goal.head_behind-head-requires
head_behind-head-requires c = (prefix-fits windows c.args.path.now (found_of c.in-Some.found) (sym c.in-Some.ensures)).fits

pub takes_rows-requires : goal.takes_rows-requires
takes_rows-requires c = (prefix-fits windows c.args.path.now (found_of c.in-Some.found) (sym c.in-Some.ensures)).fits

pub returns-in-Disk-clause-rows : goal.returns-in-Disk-clause-rows
returns-in-Disk-clause-rows c =
    let head = c.head_behind-head.result in
    subst (λ p. IsRowHead c.args.path.now (p ++ head.root.now) head.rest.now) (sym c.head_behind-head.ensures.prefix)
    (drive-head c.args.path.now head.root.now head.rest.now (found_of c.in-Some.found) (sym c.in-Some.ensures) (ap (λ k. is_disk (prefix_view k)) c.in-Disk.is) c.head_behind-head.ensures.parted)

-- what is no drive has no kind of one
no_disk : (k : WindowsPrefix) → ((letter : _) → k ≡ Disk letter → ⊥) → is_disk (prefix_view k) ≡ false
no_disk (Disk letter) h = absurd (h letter refl)
no_disk k h = refl

pub returns-in_default-kind-clause-rows : goal.returns-in_default-kind-clause-rows
returns-in_default-kind-clause-rows c =
    let head = c.head_behind-head.result in
    let takes = c.if-takes_rows.ensures.takes refl in
    subst (λ p. IsRowHead c.args.path.now (p ++ head.root.now) head.rest.now) (sym c.head_behind-head.ensures.prefix)
    (marked-head c.args.path.now head.root.now head.rest.now (found_of c.in-Some.found) (sym c.in-Some.ensures) (no_disk c.in-Some.found.kind c.in_default-kind.not-Disk) takes.no_unc takes.slashless c.head_behind-head.ensures.parted takes.ends)

pub returns-in-Disk-clause-head : goal.returns-in-Disk-clause-head
returns-in-Disk-clause-head c = head-cut c.args.path.now _ _ _ (found_of c.in-Some.found) (sym c.in-Some.ensures) c.head_behind-head.ensures.prefix c.head_behind-head.ensures.parted

pub returns-in_default-2 : goal.returns-in_default-2
returns-in_default-2 c =
    let path = c.args.path.now in
    let head = c.head_behind-head.result in
    let f = found_of c.in-Some.found in
    let is = sym c.in-Some.ensures in
    record {
      rows = tt;
      head = tt;
      found = λ plain.
          let kind = sym (verbatim-some path f is) ∙ plain in
          absurd (true≢false (sym (c.if-takes_rows.ensures.told (plain-takes path head.root.now head.rest.now f is (no_disk c.in-Some.found.kind c.in_default-2.not-Disk) kind c.head_behind-head.ensures.parted))));
    }
