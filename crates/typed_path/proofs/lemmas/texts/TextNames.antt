-- Where the own text of a component is one, so are its names, in whatever path it was read.
use Rattle.std.proofs.Common.{◌≡◌, ℕ, List, [], ◌∷◌, ◌++◌, zero, suc, ◌-◌, length, take, drop, map, Bool, true, false, not, ◌||◌, if◌then◌else◌, Option, Some, None, refl, sym, ap, subst, ◌∙◌}
use Rattle.std.specs.Str.{IsUtf8, is_utf8}
use Rattle.std.proofs.lemmas.Bool.{cond-true, cond-false, and_parts, and_from}
use Rattle.std.proofs.lemmas.List.{map-append}
use Rattle.std.proofs.lemmas.Option.{same_Some}
use Rattle.std.proofs.lemmas.Str.{IsUtf8-from_is_utf8}
use Rattle.std.proofs.Math.Bool.{not-or_self}
use Rattle.typed_path.specs.declared.scan.separators.Separators.{Separators}
use Rattle.typed_path.specs.declared.scan.separators.Separators.TheVariants.{Slash}
use Rattle.typed_path.specs.components.{Dialect, unix, windows, separators, root_text, Part, Prefix, prefix_part, root_part, current_part, parent_part, name_part, Placed, parts, Found, prefix_of, comps_behind, parts_of, comps}
use Rattle.typed_path.specs.scan.{but_last, last_part}
use Rattle.typed_path.specs.texts.{is_text_kind, is_text_prefix, has_text_names, have_text_names}
use Rattle.typed_path.proofs.lemmas.components.WrittenForms.{WritesBody, written-body}
use Rattle.typed_path.proofs.lemmas.scan.Steps.{last_pushed, last_part-push}
use Rattle.typed_path.proofs.lemmas.texts.TextCuts.{prefix-names}

-- Single components.

-- a component whose names are texts
pub text_kind-named : (p : Part) → is_text_kind p.kind ≡ true → has_text_names p ≡ true
text_kind-named p named = by (is_utf8 p.text)
  where
    by : (b : Bool) → not b || is_text_kind p.kind ≡ true
    by true = named
    by false = refl

-- a name is its own text
name-named : (name : List ℕ) → has_text_names (name_part name) ≡ true
name-named name = not-or_self (is_utf8 name)

-- a prefix whose names are texts where its own text is one
prefix-named : (p : Prefix) (raw : List ℕ) → (IsUtf8 raw → is_text_prefix p ≡ true) → has_text_names (prefix_part p raw) ≡ true
prefix-named p raw names = by (is_utf8 raw) refl
  where
    by : (b : Bool) → is_utf8 raw ≡ b → not b || is_text_prefix p ≡ true
    by true is = names (IsUtf8-from_is_utf8 raw is)
    by false is = refl

-- All components of a path.

-- a component that is kept where its names are texts with it
abbrev keep : Part → Part
keep p = if has_text_names p then p else current_part

kept : (p : Part) → has_text_names p ≡ true → keep p ≡ p
kept p named = cond-true (has_text_names p) p current_part named

keeps : (s : Separators) → WritesBody keep s
keeps s = record {
  root = kept (root_part (root_text s)) (text_kind-named (root_part (root_text s)) refl);
  current = kept current_part (text_kind-named current_part refl);
  parent = kept parent_part (text_kind-named parent_part refl);
  name = λ name. kept (name_part name) (name-named name);
}

-- those of a list of which each is kept
all-kept : (ps : List Part) → ps ≡ map keep ps → have_text_names ps ≡ true
all-kept [] same = refl
all-kept (p ∷ ps) same = let own : p ≡ keep p = cc in let others : ps ≡ map keep ps = cc in and_from _ _ (by (has_text_names p) refl own) (all-kept ps others)
  where
    by : (b : Bool) → has_text_names p ≡ b → p ≡ keep p → b ≡ true
    by true is same = refl
    by false is same = sym is ∙ ap has_text_names (same ∙ cond-false (has_text_names p) p current_part is) ∙ text_kind-named current_part refl

-- each path has such components
pub named-starts : (d : Dialect) (t : List ℕ) → have_text_names (parts (comps d t)) ≡ true
named-starts unix t = all-kept _ (written-body keep Slash (keeps Slash) 0 t)
named-starts windows t = by (prefix_of windows t) refl
  where
    s : Separators
    s = separators windows t

    by : (o : Option Found) → prefix_of windows t ≡ o → have_text_names (parts (comps_behind s t o)) ≡ true
    by None is = all-kept _ (written-body keep s (keeps s) 0 t)
    by (Some f) is = and_from _ _ (prefix-named f.prefix (take f.length t) (prefix-names t f is)) (all-kept _ (written-body keep s (keeps s) f.length (drop f.length t)))

-- also where it has one alone
pub named-single : (d : Dialect) (t : List ℕ) (p : Part) → parts_of d t ≡ p ∷ [] → has_text_names p ≡ true
named-single d t p is = (and_parts (has_text_names p) true (ap have_text_names (sym is) ∙ named-starts d t)).0

-- and what is left of them as some are taken
pub named-front : (cs : List Placed) → have_text_names (parts cs) ≡ true → have_text_names (parts (drop 1 cs)) ≡ true
named-front [] all = refl
named-front (c ∷ cs) all = (and_parts (has_text_names c.part) (have_text_names (parts cs)) all).1

named-take : (n : ℕ) (cs : List Placed) → have_text_names (parts cs) ≡ true → have_text_names (parts (take n cs)) ≡ true
named-take zero cs all = refl
named-take (suc n) [] all = refl
named-take (suc n) (c ∷ cs) all = let both = and_parts (has_text_names c.part) (have_text_names (parts cs)) all in and_from _ _ both.0 (named-take n cs both.1)

pub named-back : (cs : List Placed) → have_text_names (parts cs) ≡ true → have_text_names (parts (but_last cs)) ≡ true
named-back cs all = named-take (length cs - 1) cs all

named-end : (ps : List Part) (p : Part) → have_text_names (ps ++ p ∷ []) ≡ true → has_text_names p ≡ true
named-end [] p all = (and_parts (has_text_names p) true all).0
named-end (q ∷ ps) p all = named-end ps p (and_parts (has_text_names q) (have_text_names (ps ++ p ∷ [])) all).1

pub named-last_some : (p : Part) (cs : List Placed) → have_text_names (parts cs) ≡ true → Some p ≡ last_part cs → has_text_names p ≡ true
named-last_some p [] all is = cc
named-last_some p (c ∷ cs) all is =
    let last = last_pushed c cs in
    let split = map-append (λ d. d.part) (but_last (c ∷ cs)) (last.0 ∷ []) in
    let end = named-end (parts (but_last (c ∷ cs))) last.0.part (ap have_text_names (sym split) ∙ ap (λ ds. have_text_names (parts ds)) (sym last.1) ∙ all) in
    subst (λ q. has_text_names q ≡ true) (sym (same_Some _ _ (is ∙ ap last_part last.1 ∙ last_part-push (but_last (c ∷ cs)) last.0))) end
