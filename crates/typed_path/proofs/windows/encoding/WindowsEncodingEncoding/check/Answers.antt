use Rattle.std.proofs.Common.{◌≡◌, ℕ, List, [], OnOk, sym, ap, ◌∙◌, Result, Ok, Err}
use Rattle.typed_path.specs.declared.errors.CheckedPathError.{CheckedPathError}
use Rattle.typed_path.specs.changes.{error_of, push, fault, fault_behind}
use Rattle.typed_path.specs.views.CursorViews.{items_left}
use Rattle.typed_path.specs.components.{windows, kinds, parts}
use Rattle.typed_path.specs.promises.{LiesWithin, HasPrefixOf}
use Rattle.typed_path.proofs.lemmas.promises.WindowsContained.{contained, keeps}
use Rattle.typed_path.proofs.windows.encoding.WindowsEncodingEncoding.check.Goals as goal
use Rattle.typed_path.proofs.windows.encoding.WindowsEncodingEncoding.check.Goals.{After-check}

within : {A : Type 0} (r : Result A CheckedPathError) (path : List ℕ) → error_of r ≡ fault windows path → OnOk r ((base : List ℕ) → LiesWithin windows base path (push windows base path))
within (Ok x) path e = λ base. contained base path (sym e)
within (Err e) path is = tt

kept : {A : Type 0} (r : Result A CheckedPathError) (path : List ℕ) → error_of r ≡ fault windows path → OnOk r ((base : List ℕ) → HasPrefixOf windows base (push windows base path))
kept (Ok x) path e = λ base. keeps base path (sym e)
kept (Err e) path is = tt

judged : (c : After-check) → error_of c.check.result ≡ fault windows c.args.path.now
judged c =
    c.check.ensures
    ∙ ap (λ d. fault_behind d [] (kinds (parts (items_left c.of_windows.result)))) c.of_windows.ensures.dialect
    ∙ ap (λ cs. fault_behind windows [] (kinds (parts cs))) c.of_windows.ensures.items

pub returns-in-Some-clause-prefix : goal.returns-in-Some-clause-prefix
returns-in-Some-clause-prefix c = kept c.in-Some.judged c.args.path.now c.in-Some.ensures

pub returns-in-Some-clause-contained : goal.returns-in-Some-clause-contained
returns-in-Some-clause-contained c = within c.in-Some.judged c.args.path.now c.in-Some.ensures

pub returns-in-None-clause-prefix : goal.returns-in-None-clause-prefix
returns-in-None-clause-prefix c = kept c.check.result c.args.path.now (judged c)

pub returns-in-None-clause-contained : goal.returns-in-None-clause-contained
returns-in-None-clause-contained c = within c.check.result c.args.path.now (judged c)
