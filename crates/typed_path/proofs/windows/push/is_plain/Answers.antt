use Rattle.std.proofs.Common.{◌≡◌, ℕ, Bool, true, false, not, is_some, IsTrue, Option, Some, None, refl, sym, ◌∙◌}
use Rattle.typed_path.proofs.lemmas.changes.WindowsPushes.{put_behind-told}
use Rattle.typed_path.proofs.windows.push.is_plain.Goals as goal

-- an option that is none
none_is : (o : Option ℕ) (b : Bool) → is_some o ≡ not b → IsTrue b → o ≡ None
none_is None b e h = refl
none_is (Some x) true e h = cc
none_is (Some x) false e h = cc

pub returns-then-not-contains : goal.returns-then-not-contains
returns-then-not-contains c = λ told.
    put_behind-told c.args.path.now c.in-len1-up.len_at_least (sym c.contains.ensures ∙ c.if-not-contains.true) (sym c.drive.ensures ∙ none_is c.drive.result c.is_none.result c.is_none.ensures told)
