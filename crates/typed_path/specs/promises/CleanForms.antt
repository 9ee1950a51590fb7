-- What is promised of clean texts.
use Rattle.std.specs.Prelude.{◌≡◌, ◌↔◌, ℕ, List, true, false, None}
use Rattle.typed_path.specs.components.Dialects.{Dialect}
use Rattle.typed_path.specs.components.Parts.{kinds}
use Rattle.typed_path.specs.components.Prefixes.{prefix_of}
use Rattle.typed_path.specs.components.Comps.{parts_of}
use Rattle.typed_path.specs.queries.Queries.{is_absolute}
use Rattle.typed_path.specs.changes.Push.{push}
use Rattle.typed_path.specs.places.Places.{place}
use Rattle.typed_path.specs.places.Clean.{clean_text, route}
use Rattle.typed_path.specs.promises.Promises.{prefix_kind, is_verbatim_unc_name, keeps_prefix}

-- a clean text has the prefix of the text, or none as that has, leads where it leads, and is its own clean text
pub record IsCleanForm (d : Dialect) (t clean : List ℕ) : Type 0 where
  pub prefix : prefix_of d clean ≡ prefix_of d t
  pub route : route d clean ≡ route d t
  pub stays : clean_text d clean ≡ clean

-- so it is of each text but behind the verbatim prefix that is named `UNC`
abbrev pub HasCleanForm : Dialect → List ℕ → List ℕ → Type 0
HasCleanForm d t clean = is_verbatim_unc_name (prefix_kind d t) ≡ false → IsCleanForm d t clean

-- two texts without a prefix, as all of Unix are, have one clean text exactly if they lead alike
abbrev pub AreCleanAlike : Dialect → List ℕ → List ℕ → Type 0
AreCleanAlike d t u = prefix_of d t ≡ None → prefix_of d u ≡ None → (clean_text d t ≡ clean_text d u) ↔ (route d t ≡ route d u)

-- read from an absolute directory that keeps its prefix, paths that lead alike lie at one place
abbrev pub LeadAlike : Dialect → List ℕ → List ℕ → List ℕ → Type 0
LeadAlike d directory t u =
    keeps_prefix d directory ≡ true → is_absolute d (kinds (parts_of d directory)) ≡ true → route d t ≡ route d u
    → place d (push d directory t) ≡ place d (push d directory u)

-- and so a clean text lies where its text does
abbrev pub CleanLeadsAlike : Dialect → List ℕ → List ℕ → Type 0
CleanLeadsAlike d directory t =
    keeps_prefix d directory ≡ true → is_absolute d (kinds (parts_of d directory)) ≡ true → is_verbatim_unc_name (prefix_kind d t) ≡ false
    → place d (push d directory (clean_text d t)) ≡ place d (push d directory t)
