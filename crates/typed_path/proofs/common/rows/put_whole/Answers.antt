use Rattle.std.proofs.Common.{◌≡◌, ◌∙◌, ◌+◌, true, length, sym, ap, refl, subst}
use Rattle.typed_path.specs.changes.{PutsPart}
use Rattle.typed_path.specs.components.{Dialect, unix, windows}
use Rattle.typed_path.specs.conversions.{same_dialect}
use Rattle.typed_path.specs.places.{clean_text}
use Rattle.typed_path.proofs.lemmas.places.CleanTexts.{clean_text-none}
use Rattle.typed_path.proofs.common.rows.put_whole.Goals as goal

-- what is written as on Windows is of that dialect
is_windows-told : (d : Dialect) → same_dialect d windows ≡ true → d ≡ windows
is_windows-told windows e = refl
is_windows-told unix e = cc

pub returns-in-None : goal.returns-in-None
returns-in-None g c =
    let path = c.args.path.now in
    let w = is_windows-told g.T.Encoding.dialect (sym c.is_windows.ensures ∙ c.if-not-is_windows.false) in
    subst (λ bytes. PutsPart c.put_bare-in-None.result c.args.text.now c.put_bare-in-None.new.text bytes (length path + 2))
    (clean_text-none path (sym c.in-None.ensures) ∙ ap (λ e. clean_text e path) (sym w)) c.put_bare-in-None.ensures
