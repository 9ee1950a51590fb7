use Rattle.std.proofs.Common.{◌≡◌, ◌∙◌, length, refl, arith}
use Rattle.std.proofs.lemmas.List.{take_all}
use Rattle.std.proofs.lemmas.Result.{on_ok_weaker}
use Rattle.typed_path.specs.declared.scan.separators.Separators.TheVariants.{Slash}
use Rattle.typed_path.specs.places.{segment_kinds}
use Rattle.typed_path.proofs.lemmas.places.CleanRows.{kept-start}
use Rattle.typed_path.proofs.common.rows.put_each_segment.Goals as goal

pub returns-clause-puts : goal.returns-clause-puts
returns-clause-puts c =
    let text = c.args.text.now.items in
    let kinds = segment_kinds Slash c.args.path.now in
    let size : c.len-len.result ≡ length text = omega (arith, c.len-len.ensures, c.args.text.now.ok) in
    let did = c.put_each_by_slashes.ensures in
    record {
      ok = on_ok_weaker c.put_each_by_slashes.result (λ puts. puts text kinds (kept-start Slash c.args.anchored text text c.len-len.result kinds refl size)) did.ok;
      kept = rw size at did.kept ∙ take_all (length text) text (omega arith);
      capacity = did.capacity;
      succeeds = λ fits. did.succeeds (omega (arith, fits));
    }
