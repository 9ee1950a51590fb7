-- What a list of ignore rules promises.
use Rattle.std.specs.Prelude.{◌≡◌, ℕ, List, [], ◌∷◌, ◌++◌, Bool, true, false, not, ◌&&◌, ◌||◌, ◌==◌, nat_eq, fold, if◌then◌else◌}
use Rattle.std.specs.List.{filter, list_any, starts_with, ends_with}
use Rattle.std.specs.Cmp.Lexicographic.{pointwise}
use Rattle.std.specs.Ordering.{is_eq}
use Rattle.typed_path.specs.components.Dialects.{Dialect, slash}
use Rattle.typed_path.specs.components.Parts.{Kind, normal, kinds, is_name}
use Rattle.typed_path.specs.components.Comps.{parts_of}
use Rattle.typed_path.specs.order.Same.{kind_cmp}
use Rattle.typed_path_uses.specs.declared.ignore.Rule.{Rule}

-- the bytes `!` and `*`
abbrev pub mark : ℕ
mark = 33

abbrev pub star : ℕ
star = 42

-- a line begins with `!`
abbrev pub begins_with_mark : List ℕ → Bool
begins_with_mark line = starts_with nat_eq line (mark ∷ [])

-- a line without a `!` at its front
abbrev pub behind_mark : List ℕ → List ℕ
behind_mark [] = []
behind_mark (b ∷ bs) = if b == mark then bs else b ∷ bs

-- a line ends with `/`
abbrev pub ends_with_slash : List ℕ → Bool
ends_with_slash line = ends_with nat_eq line (slash ∷ [])

-- the component is the name `*`
abbrev pub is_star : Kind → Bool
is_star (normal (b ∷ [])) = b == star
is_star k = false

-- a component of a rule fits one of a path: `*` each name, and all else itself
abbrev pub fits_kind : Kind → Kind → Bool
fits_kind k l = (is_star k && is_name l) || is_eq (kind_cmp k l)

-- as many components, each of which fits
abbrev pub fits : List Kind → List Kind → Bool
fits = pointwise fits_kind

-- a rule fits a path, by its components: a folder alone where it is for folders
abbrev pub rule_fits : Dialect → List Kind → Bool → Rule → Bool
rule_fits d path is_folder rule = (not rule.is_folder || is_folder) && fits (kinds (parts_of d rule.pattern.now)) path

-- of the rules that fit, the last decides; where none fits, the path is not ignored
abbrev pub is_ignored : Dialect → List Kind → Bool → List Rule → Bool
is_ignored d path is_folder rules = fold (λ earlier rule. not rule.is_back) false (filter (rule_fits d path is_folder) rules)

-- a rule of a list fits, and none behind it does
pub record IsLastThatFits (rule_fits : Rule → Bool) (rules : List Rule) (rule : Rule) : Type 0 where
  pub earlier : List Rule
  pub later : List Rule
  pub stands : rules ≡ earlier ++ rule ∷ later
  pub does_fit : rule_fits rule ≡ true
  pub none_later : list_any rule_fits later ≡ false
