use Rattle.std.proofs.Common.{◌≡◌, false, refl, ◌∙◌, ◌++◌, ap, sym}
use Rattle.typed_path.specs.components.{windows}
use Rattle.typed_path.specs.queries.{is_disk}
use Rattle.typed_path.specs.declared.scan.prefix.WindowsPrefix.{WindowsPrefix}
use Rattle.typed_path.specs.declared.scan.prefix.WindowsPrefix.TheVariants.{Verbatim, VerbatimUNC, VerbatimDisk, DeviceNS, UNC, Disk}
use Rattle.typed_path.specs.views.PieceViews.{found_of, prefix_view}
use Rattle.typed_path.proofs.lemmas.components.Prefixes.{prefix-fits}
use Rattle.typed_path.proofs.lemmas.places.CleanTexts.{prefixed-text}
use Rattle.typed_path.proofs.common.rows.put_prefixed.Goals as goal
use Rattle.typed_path.proofs.common.rows.put_prefixed.Goals.{in-Disk, in_default}

pub put_headed-requires : goal.put_headed-requires
put_headed-requires c = (prefix-fits windows c.args.path.now (found_of c.args.found) (sym c.requires)).fits

-- a prefix of another kind is no drive
no_drive : (k : WindowsPrefix) → ((letter : _) → k ≡ Disk letter → ⊥) → is_disk (prefix_view k) ≡ false
no_drive (Verbatim name) none = refl
no_drive (VerbatimUNC server share) none = refl
no_drive (VerbatimDisk letter) none = refl
no_drive (DeviceNS name) none = refl
no_drive (UNC server share) none = refl
no_drive (Disk letter) none = absurd (none letter refl)

pub returns : goal.returns
returns c =
    let h = c.in_ok-put_headed.ensures in
    let told : c.match-matches.matches ≡ is_disk (found_of c.args.found).prefix = elim c.match-matches.branch [
      | in-Disk w ↦ w.matches-is ∙ ap (λ k. is_disk (prefix_view k)) (sym w.in-Disk.is)
      | in_default w ↦ w.matches-is ∙ sym (no_drive c.args.found.kind w.in_default.not-Disk)
    ] in
    record {
      ok =
          h.ok
          ∙ ap (λ t. c.args.text.now.items ++ t)
          (prefixed-text c.args.path.now (found_of c.args.found) _ _ c.match-matches.matches (sym c.requires) c.of_windows.ensures h.rooted told);
      kept = h.kept;
      capacity = h.capacity;
      succeeds = λ _. refl;
    }
