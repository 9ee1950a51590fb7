use Rattle.std.proofs.Common.{◌≡◌, ℕ, List, [], OnOk, sym, ap, ◌∙◌, Result, Ok, Err}
use Rattle.typed_path.specs.declared.errors.CheckedPathError.{CheckedPathError}
use Rattle.typed_path.specs.changes.{error_of, push, fault, fault_behind}
use Rattle.typed_path.specs.views.CursorViews.{items_left}
use Rattle.typed_path.specs.components.{unix, dialect_of, kinds, parts}
use Rattle.typed_path.specs.promises.{LiesWithin}
use Rattle.typed_path.proofs.lemmas.changes.Faults.{harmless}
use Rattle.typed_path.proofs.lemmas.promises.UnixContained.{contained}
use Rattle.typed_path.proofs.unix.encoding.UnixEncodingEncoding.check.Goals as goal

accepted : {A : Type 0} (r : Result A CheckedPathError) (path : List ℕ) → error_of r ≡ fault unix path → OnOk r ((base : List ℕ) → LiesWithin unix base path (push unix base path))
accepted (Ok x) path e = λ base. contained base path (sym e)
accepted (Err e) path is = tt

pub returns-then-has_no_nul_or_dot_pair-clause-refused : goal.returns-then-has_no_nul_or_dot_pair-clause-refused
returns-then-has_no_nul_or_dot_pair-clause-refused c = sym (harmless c.args.path.now (sym c.has_no_nul_or_dot_pair.ensures ∙ c.if-has_no_nul_or_dot_pair.true) (sym c.starts_with.ensures.value ∙ c.if-not-starts_with.true))

pub returns-then-has_no_nul_or_dot_pair-clause-contained : goal.returns-then-has_no_nul_or_dot_pair-clause-contained
returns-then-has_no_nul_or_dot_pair-clause-contained c =
    let path = c.args.path.now in
    λ base. contained base path (harmless path (sym c.has_no_nul_or_dot_pair.ensures ∙ c.if-has_no_nul_or_dot_pair.true) (sym c.starts_with.ensures.value ∙ c.if-not-starts_with.true))

pub returns-clause-contained : goal.returns-clause-contained
returns-clause-contained c =
    accepted c.check.result c.args.path.now
    (c.check.ensures
    ∙ ap (λ s. fault_behind (dialect_of s) [] (kinds (parts (items_left c.new.result)))) c.new.ensures.separators
    ∙ ap (λ cs. fault_behind unix [] (kinds (parts cs))) c.new.ensures.items)
