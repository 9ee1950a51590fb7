-- What changes a text leaves a text, and what the search is told of texts.
use Rattle.std.proofs.Common.{◌≡◌, ℕ, ◌-◌, ◌<◌, ◌==◌, ◌||◌, true, List, [], ◌∷◌, ◌++◌, length, take, slice_index, refl, arith, ◌+◌, sym, ap, subst, ◌∙◌, map, drop, Option, Some, None, option_and_then, option_map, Ok, Bool, false, if◌then◌else◌}
use Rattle.std.proofs.lemmas.Grind.{common_steps}
use Rattle.std.specs.List.{AllByRecursion}
use Rattle.std.specs.Str.{IsUtf8, is_utf8, IsCharBoundary}
use Rattle.std.proofs.lemmas.Bool.{cond_both, and_parts}
use Rattle.std.proofs.lemmas.Str.{IsUtf8-nil, IsUtf8-append, IsUtf8-take, IsUtf8-from_is_utf8, is_utf8-from_IsUtf8, IsCharBoundary-end, IsUtf8-string_bytes}
use Rattle.std.specs.String.{string_bytes}
use Rattle.std.specs.declared.string.String.{String}
use Rattle.typed_path.specs.declared.scan.step.Piece.{Piece}
use Rattle.typed_path.specs.components.{Dialect, unix, windows, slash, backslash, dot, question, root_of, Kind, root, current, parent, Part, kinds, is_name, texts, Placed, parts, Found, prefix_of, parts_of, comps, written, as_written}
use Rattle.typed_path.specs.queries.{begins_with_root, has_prefix, has_any_verbatim_prefix, name_of, is_root, is_absolute, parent_of, file_name_of, file_stem_of, file_prefix_of, extension, can_be_simplified, simplified_text, common_ancestor_of, stripped, stem_of, extension_of}
use Rattle.typed_path.specs.changes.{ended_with, push_unix, prefix_alone, without_last_name, merge_by_kind, merged, joint, spelled, raw_length, raw_prefix, is_disk_alone, ended_windows, push_behind, push_windows, push, push_all, dotted, start_of_last, stem_end, name_end, cut_at, without_file_name, with_file_name, with_extension, with_added_extension}
use Rattle.typed_path.specs.texts.{are_texts, is_text_part, are_text_parts, is_text_option}
use Rattle.typed_path.specs.scan.{last_of, but_last, first_part, last_part}
use Rattle.typed_path.specs.places.{resolve, normal_text}
use Rattle.typed_path.specs.conversions.{crossed, converted, converted_checked, platform, absolute_from, absolute_under}
use Rattle.typed_path.specs.views.PieceViews.{part_of}
use Rattle.typed_path.proofs.lemmas.lists.Lists.{AllByRecursion-append, AllByRecursion-last}
use Rattle.typed_path.proofs.lemmas.texts.TextCuts.{byte-utf8, after_mark-utf8, prefix-text, ascii-cuts, IsCut, comps-cut, slash-text, backslash-text, current-text, parent-text as parent_part-text, name-text}
use Rattle.typed_path.proofs.lemmas.texts.TextsLeft.{parts_of-text, some_text, name_of-text, without_file_name-text, ancestors-text, reading-starts, reading-front, reading-back, reading-slice, reading-first, reading-last, reading-first_some, reading-last_some, reading-parts, reading-texts, reading-above, reading-behind, stem_of-text, extension_of-text, components-text, single-text, first-text, last-text, parent-text, file_name-text, file_stem-text, file_prefix-text, extension-text, stripped-text, common_ancestor-text, popped-text}
use Rattle.typed_path.proofs.lemmas.queries.FileNames.{stem_of-whole, stem_of-extension}
use Rattle.typed_path.proofs.lemmas.queries.Simplified.{simple_text, simple_of}
use Rattle.typed_path.proofs.lemmas.scan.Steps.{last_of-push, last_pushed}
use Rattle.typed_path.proofs.lemmas.components.WrittenForms.{written-drop, written-but_last, written-first, written-last, written-parts_of}
use Rattle.typed_path.proofs.lemmas.changes.PushLengths.{checked-all}

-- A text pushed onto a text makes a text.

-- a component whose text is one
abbrev pub IsWritten : Part → Type 0
IsWritten p = IsUtf8 p.text

-- components of which each is a text
pub each_written : (ps : List Part) → are_text_parts ps ≡ true → AllByRecursion IsWritten ps
each_written [] each = tt
each_written (p ∷ ps) each =
    let own = and_parts (is_text_part p) (are_text_parts ps) each in
    (IsUtf8-from_is_utf8 p.text (and_parts (is_utf8 p.text) _ own.0).0, each_written ps own.1)

-- those of a text are
pub parts_of-written : (d : Dialect) (t : List ℕ) → IsUtf8 t → AllByRecursion IsWritten (parts_of d t)
parts_of-written d t is = each_written (parts_of d t) (parts_of-text d t is)

-- a list of texts
pub each_utf8 : (ts : List (List ℕ)) → are_texts ts ≡ true → AllByRecursion IsUtf8 ts
each_utf8 [] each = tt
each_utf8 (t ∷ ts) each = let own = and_parts (is_utf8 t) (are_texts ts) each in (IsUtf8-from_is_utf8 t own.0, each_utf8 ts own.1)

-- the texts of components
pub texts-utf8 : (ps : List Part) → AllByRecursion IsWritten ps → AllByRecursion IsUtf8 (texts ps)
texts-utf8 [] each = tt
texts-utf8 (p ∷ ps) each = (each.0, texts-utf8 ps each.1)

-- a text, with a byte of ASCII at its end
ended_with-utf8 : (b : ℕ) (t : List ℕ) → b < 128 → IsUtf8 t → IsUtf8 (ended_with b t)
ended_with-utf8 b t low is =
    cond_both (length t == 0 || slice_index t (length t - 1) == b) t (t ++ b ∷ []) IsUtf8 (λ ended. is) (λ other. IsUtf8-append t (b ∷ []) is (byte-utf8 b low))

-- a push of Unix
push_unix-utf8 : (base path : List ℕ) → IsUtf8 base → IsUtf8 path → IsUtf8 (push_unix base path)
push_unix-utf8 base [] is other = is
push_unix-utf8 base (b ∷ path) is other =
    cond_both (b == slash) (b ∷ path) (ended_with slash base ++ b ∷ path) IsUtf8 (λ rooted. other) (λ relative. IsUtf8-append (ended_with slash base) (b ∷ path) (ended_with-utf8 slash base (omega arith) is) other)

-- a list without what stands behind its prefix, and without its last name
prefix_alone-written : (ps : List Part) → AllByRecursion IsWritten ps → AllByRecursion IsWritten (prefix_alone ps)
prefix_alone-written ps each = grind arith

without_last_name-written : (ps : List Part) → AllByRecursion IsWritten ps → AllByRecursion IsWritten (without_last_name ps)
without_last_name-written [] each = tt
without_last_name-written (p ∷ []) each = cond_both (is_name p.kind) [] (p ∷ []) (AllByRecursion IsWritten) (λ named. tt) (λ other. each)
without_last_name-written (p ∷ q ∷ ps) each = (each.0, without_last_name-written (q ∷ ps) each.1)

-- a list that takes a component
merge_by_kind-written : (ps : List Part) (p : Part) (k : Kind) → AllByRecursion IsWritten ps → IsWritten p → AllByRecursion IsWritten (merge_by_kind ps p k)
merge_by_kind-written ps p root each own = AllByRecursion-append IsWritten (prefix_alone ps) (p ∷ []) (prefix_alone-written ps each) (own, tt)
merge_by_kind-written ps p current each own = each
merge_by_kind-written ps p parent each own = without_last_name-written ps each
merge_by_kind-written ps p k each own = AllByRecursion-append IsWritten ps (p ∷ []) each (own, tt)

-- and one that takes a list of them
merged-written : (ps qs : List Part) → AllByRecursion IsWritten ps → AllByRecursion IsWritten qs → AllByRecursion IsWritten (merged ps qs)
merged-written ps [] each others = each
merged-written ps (q ∷ qs) each others = merged-written (merge_by_kind ps q q.kind) qs (merge_by_kind-written ps q q.kind each others.0) others.1

-- what stands between two components
joint-utf8 : (k l : Kind) → IsUtf8 (joint k l)
joint-utf8 root l = IsUtf8-nil
joint-utf8 k root = IsUtf8-nil
joint-utf8 k l = byte-utf8 backslash (omega arith)

-- a list written anew
spelled-utf8 : (ps : List Part) → AllByRecursion IsWritten ps → IsUtf8 (spelled ps)
spelled-utf8 [] each = IsUtf8-nil
spelled-utf8 (p ∷ []) each = each.0
spelled-utf8 (p ∷ q ∷ ps) each =
    IsUtf8-append (p.text ++ joint p.kind q.kind) (spelled (q ∷ ps)) (IsUtf8-append p.text (joint p.kind q.kind) each.0 (joint-utf8 p.kind q.kind)) (spelled-utf8 (q ∷ ps) each.1)

-- the raw text of the prefix
raw_prefix-utf8 : (t : List ℕ) → IsUtf8 t → IsUtf8 (raw_prefix t)
raw_prefix-utf8 t is = by (prefix_of windows t) refl
  where
    by : (o : Option Found) → prefix_of windows t ≡ o → IsUtf8 (take (raw_length o) t)
    by None e = IsUtf8-nil
    by (Some f) e = IsUtf8-take t f.length is (prefix-text windows t f is e).end

-- a push of Windows
ended_windows-utf8 : (t : List ℕ) → IsUtf8 t → IsUtf8 (ended_windows t)
ended_windows-utf8 t is = cond_both (is_disk_alone (kinds (parts_of windows t))) t (ended_with backslash t) IsUtf8 (λ alone. is) (λ other. ended_with-utf8 backslash t (omega arith) is)

push_behind-utf8 : (base path : List ℕ) → IsUtf8 base → IsUtf8 path → IsUtf8 (push_behind base path)
push_behind-utf8 base path is other =
    cond_both (begins_with_root (kinds (parts_of windows path))) (raw_prefix base ++ path) (ended_windows base ++ path) IsUtf8
    (λ rooted. IsUtf8-append (raw_prefix base) path (raw_prefix-utf8 base is) other) (λ relative. IsUtf8-append (ended_windows base) path (ended_windows-utf8 base is) other)

push_windows-utf8 : (base path : List ℕ) → IsUtf8 base → IsUtf8 path → IsUtf8 (push_windows base path)
push_windows-utf8 base [] is other = is
push_windows-utf8 base (b ∷ bs) is other =
    let path = b ∷ bs in
    cond_both (has_prefix (kinds (parts_of windows path))) path _ IsUtf8 (λ has. other)
    (λ none. cond_both (has_any_verbatim_prefix (kinds (parts_of windows base))) (spelled (merged (parts_of windows base) (parts_of windows path))) (push_behind base path) IsUtf8
    (λ verbatim. spelled-utf8 _ (merged-written (parts_of windows base) (parts_of windows path) (parts_of-written windows base is) (parts_of-written windows path other)))
    (λ plain. push_behind-utf8 base path is other))

-- a text pushed onto a text makes a text
pub push-utf8 : (d : Dialect) (base path : List ℕ) → IsUtf8 base → IsUtf8 path → IsUtf8 (push d base path)
push-utf8 unix base path is other = push_unix-utf8 base path is other
push-utf8 windows base path is other = push_windows-utf8 base path is other

-- so do texts that are pushed one by one
pub push_all-utf8 : (d : Dialect) (base : List ℕ) (paths : List (List ℕ)) → IsUtf8 base → AllByRecursion IsUtf8 paths → IsUtf8 (push_all d base paths)
push_all-utf8 d base [] is others = is
push_all-utf8 d base (path ∷ paths) is others = push_all-utf8 d (push d base path) paths (push-utf8 d base path is others.0) others.1

-- What changes a text leaves a text.

-- what a list resolves to is part of it
resolve-written : (ps : List Part) → AllByRecursion IsWritten ps → AllByRecursion IsWritten (resolve ps)
resolve-written [] each = tt
resolve-written (p ∷ ps) each = grind (arith, common_steps, cond_both, resolve-written ps each.1)

-- so the normal text of a text is a text
pub normal_text-utf8 : (d : Dialect) (t : List ℕ) → IsUtf8 t → IsUtf8 (normal_text d t)
normal_text-utf8 d t is = grind (arith, push_all-utf8, texts-utf8, resolve-written, parts_of-written)

-- a name may be cut behind its stem
stem_of-cut : (name : List ℕ) → IsUtf8 name → IsCharBoundary name (length (stem_of name))
stem_of-cut name is = by (extension_of name) refl
  where
    by : (o : Option (List ℕ)) → extension_of name ≡ o → IsCharBoundary name (length (stem_of name))
    by None e = let whole : length name ≡ length (stem_of name) = ap length (sym (stem_of-whole name e)) in subst (IsCharBoundary name) whole (IsCharBoundary-end name)
    by (Some ext) e = (ascii-cuts name (stem_of name) ext dot is (stem_of-extension name ext e).0 (omega arith)).0

-- where the front of a file name ends that may be cut there, the text may be
front_end-cut : (front : List ℕ → List ℕ) → ((name : List ℕ) → IsUtf8 name → IsCharBoundary name (length (front name)))
    → (d : Dialect) (t : List ℕ) (end : ℕ) → is_utf8 t ≡ true
    → option_map (λ name. start_of_last (last_of (comps d t)) + length (front name)) (file_name_of d t) ≡ Some end → IsCharBoundary t end
front_end-cut front cuts d t end is e = by (comps d t) (comps-cut d t (IsUtf8-from_is_utf8 t is)) refl e
  where
    named : (c : Placed) → IsCut t c → (o : Option (List ℕ)) → name_of c.part.kind ≡ o → option_map (λ n. c.start + length (front n)) o ≡ Some end → IsCharBoundary t end
    named c cut None f e = cc
    named c cut (Some name) f e =
        let text = some_text (name_of c.part.kind) name f (name_of-text c.part.kind (and_parts (is_utf8 c.part.text) _ cut.part).1) in
        let place : c.start + length (front name) ≡ end = cc in
        subst (IsCharBoundary t) place (cut.inside name (length (front name)) f (cuts name text))

    by : (cs : List Placed) → AllByRecursion (IsCut t) cs → comps d t ≡ cs
        → option_map (λ name. start_of_last (last_of cs) + length (front name)) (option_and_then (λ last. name_of last.part.kind) (last_of cs)) ≡ Some end → IsCharBoundary t end
    by [] each f e = cc
    by (c ∷ cs) each f e =
        let last = last_pushed c cs in
        let is_last : last_of (c ∷ cs) ≡ Some last.0 = ap last_of last.1 ∙ last_of-push (but_last (c ∷ cs)) last.0 in
        named last.0 (AllByRecursion-last (IsCut t) (but_last (c ∷ cs)) last.0 (subst (AllByRecursion (IsCut t)) last.1 each)) (name_of last.0.part.kind) refl
        (ap (λ o. option_map (λ name. start_of_last o + length (front name)) (option_and_then (λ x. name_of x.part.kind) o)) (sym is_last) ∙ e)

-- so it may be cut behind the stem of its file name, and behind the name
stem_end-cut : (d : Dialect) (t : List ℕ) (end : ℕ) → is_utf8 t ≡ true → stem_end d t ≡ Some end → IsCharBoundary t end
stem_end-cut = front_end-cut stem_of stem_of-cut

name_end-cut : (d : Dialect) (t : List ℕ) (end : ℕ) → is_utf8 t ≡ true → name_end d t ≡ Some end → IsCharBoundary t end
name_end-cut = front_end-cut (λ name. name) (λ name is. IsCharBoundary-end name)

-- an extension and the dot before it
dotted-utf8 : (ext : List ℕ) → IsUtf8 ext → IsUtf8 (dotted ext)
dotted-utf8 [] is = is
dotted-utf8 (b ∷ bs) is = IsUtf8-append (dot ∷ []) (b ∷ bs) (byte-utf8 dot (omega arith)) is

module _ (d : Dialect) (t : List ℕ) (is : is_utf8 t ≡ true) where
  text : IsUtf8 t
  text = IsUtf8-from_is_utf8 t is

  -- a text with another pushed onto it
  pub push-text : (path : List ℕ) → is_utf8 path ≡ true → is_utf8 (push d t path) ≡ true
  push-text path other = is_utf8-from_IsUtf8 _ (push-utf8 d t path text (IsUtf8-from_is_utf8 path other))

  -- with a list of others
  pub push_all-text : (paths : List (List ℕ)) → are_texts paths ≡ true → is_utf8 (push_all d t paths) ≡ true
  push_all-text paths others = is_utf8-from_IsUtf8 _ (push_all-utf8 d t paths text (each_utf8 paths others))

  -- its normal text
  pub normal_text-text : is_utf8 (normal_text d t) ≡ true
  normal_text-text = is_utf8-from_IsUtf8 _ (normal_text-utf8 d t text)

  -- without the mark of a verbatim drive
  pub simplified-text : is_utf8 (simplified_text d t) ≡ true
  simplified-text = by d
    where
      choose : (simple : Bool) → can_be_simplified t ≡ simple → is_utf8 (if simple then drop 4 t else t) ≡ true
      choose true e = is_utf8-from_IsUtf8 _ (after_mark-utf8 question t (drop 4 t) text (simple_text t (simple_of t e)).marked)
      choose false e = is

      by : (e : Dialect) → is_utf8 (simplified_text e t) ≡ true
      by unix = is
      by windows = choose (can_be_simplified t) refl

  -- with another file name
  pub with_file_name-text : (name : List ℕ) → is_utf8 name ≡ true → is_utf8 (with_file_name d t name) ≡ true
  with_file_name-text name other =
      is_utf8-from_IsUtf8 _ (push-utf8 d (without_file_name d t) name (IsUtf8-from_is_utf8 _ (without_file_name-text d t is)) (IsUtf8-from_is_utf8 name other))

  -- cut where it may be, with an extension put there
  cut_at-text : (ext : List ℕ) (o : Option ℕ) → is_utf8 ext ≡ true → ((end : ℕ) → o ≡ Some end → IsCharBoundary t end) → is_utf8 (cut_at t ext o) ≡ true
  cut_at-text ext None other cuts = is
  cut_at-text ext (Some end) other cuts =
      is_utf8-from_IsUtf8 _ (IsUtf8-append (take end t) (dotted ext) (IsUtf8-take t end text (cuts end refl)) (dotted-utf8 ext (IsUtf8-from_is_utf8 ext other)))

  -- with another extension
  pub with_extension-text : (ext : List ℕ) → is_utf8 ext ≡ true → is_utf8 (with_extension d t ext) ≡ true
  with_extension-text ext other = cut_at-text ext (stem_end d t) other (λ end e. stem_end-cut d t end is e)

  -- with one more
  pub with_added_extension-text : (ext : List ℕ) → is_utf8 ext ≡ true → is_utf8 (with_added_extension d t ext) ≡ true
  with_added_extension-text [] other = is
  with_added_extension-text (b ∷ bs) other = cut_at-text (b ∷ bs) (name_end d t) other (λ end e. name_end-cut d t end is e)

-- A text in another dialect, or made absolute, is a text.

-- a root as it is written
root_of-utf8 : (e : Dialect) → IsUtf8 (root_of e)
root_of-utf8 unix = byte-utf8 slash (omega arith)
root_of-utf8 windows = byte-utf8 backslash (omega arith)

-- a component in another dialect
crossed-utf8 : (e : Dialect) (p : Part) → IsWritten p → IsUtf8 (crossed e p)
crossed-utf8 e p is = cond_both (is_root p.kind) (root_of e) p.text IsUtf8 (λ rooted. root_of-utf8 e) (λ other. is)

crossed_each-utf8 : (e : Dialect) (ps : List Part) → AllByRecursion IsWritten ps → AllByRecursion IsUtf8 (map (crossed e) ps)
crossed_each-utf8 e [] each = tt
crossed_each-utf8 e (p ∷ ps) each = (crossed-utf8 e p each.0, crossed_each-utf8 e ps each.1)

module _ (d e : Dialect) (t : List ℕ) (is : is_utf8 t ≡ true) where
  crossed-text : IsUtf8 (push_all e [] (map (crossed e) (parts_of d t)))
  crossed-text = push_all-utf8 e [] (map (crossed e) (parts_of d t)) IsUtf8-nil (crossed_each-utf8 e (parts_of d t) (parts_of-written d t (IsUtf8-from_is_utf8 t is)))

  -- a text in another dialect
  pub converted-text : is_utf8 (converted d e t) ≡ true
  converted-text = grind (arith, is_utf8-from_IsUtf8, crossed-text)

  -- the same by checked pushes
  pub converted_checked-text : (u : List ℕ) → converted_checked d e t ≡ Ok u → is_utf8 u ≡ true
  converted_checked-text u made = is_utf8-from_IsUtf8 u (subst IsUtf8 (sym (checked-all e (parts_of d t) [] u made)) crossed-text)

-- a text that is made absolute
pub absolute_under-text : (d e : Dialect) (directory t : List ℕ) → is_utf8 directory ≡ true → is_utf8 t ≡ true → is_text_option (absolute_under d e directory t) ≡ true
absolute_under-text d e directory t base is =
    let joined = push d (converted e d directory) t in
    cond_both (is_absolute d (kinds (parts_of d t))) (Some (normal_text d t)) _ (λ o. is_text_option o ≡ true) (λ own. normal_text-text d t is)
    (λ relative. cond_both (is_absolute d (kinds (parts_of d joined))) (Some (normal_text d joined)) None (λ o. is_text_option o ≡ true)
    (λ absolute. normal_text-text d joined (push-text d (converted e d directory) (converted-text e d directory base) t is)) (λ ambiguous. refl))

-- What the search is told of texts: one set for what a path answers and what changes it, and one for readings.

-- the bytes of a string are a text
pub string-text : {Z : Type 0} (s : String Z) → is_utf8 (string_bytes s) ≡ true
string-text s = is_utf8-from_IsUtf8 (string_bytes s) (IsUtf8-string_bytes s)

-- bytes that may be there are a text where they are there
text_from : (o : Option (List ℕ)) (u : List ℕ) → is_text_option o ≡ true → o ≡ Some u → is_utf8 u ≡ true
text_from o u is e = ap is_text_option (sym e) ∙ is

-- so it is with the parent, the names, what is left behind a base, and the absolute text
pub parent-some : (d : Dialect) (t u : List ℕ) → is_utf8 t ≡ true → parent_of d t ≡ Some u → is_utf8 u ≡ true
parent-some d t u is e = text_from _ u (parent-text d t is) e

pub file_name-some : (d : Dialect) (t u : List ℕ) → is_utf8 t ≡ true → file_name_of d t ≡ Some u → is_utf8 u ≡ true
file_name-some d t u is e = text_from _ u (file_name-text d t is) e

pub file_stem-some : (d : Dialect) (t u : List ℕ) → is_utf8 t ≡ true → file_stem_of d t ≡ Some u → is_utf8 u ≡ true
file_stem-some d t u is e = text_from _ u (file_stem-text d t is) e

pub file_prefix-some : (d : Dialect) (t u : List ℕ) → is_utf8 t ≡ true → file_prefix_of d t ≡ Some u → is_utf8 u ≡ true
file_prefix-some d t u is e = text_from _ u (file_prefix-text d t is) e

pub extension-some : (d : Dialect) (t u : List ℕ) → is_utf8 t ≡ true → extension d t ≡ Some u → is_utf8 u ≡ true
extension-some d t u is e = text_from _ u (extension-text d t is) e

pub stripped-some : (d : Dialect) (t b u : List ℕ) → is_utf8 t ≡ true → stripped d t b ≡ Some u → is_utf8 u ≡ true
stripped-some d t b u is e = text_from _ u (stripped-text d t is b) e

pub common_ancestor-some : (d : Dialect) (t o u : List ℕ) → is_utf8 t ≡ true → common_ancestor_of d t o ≡ Some u → is_utf8 u ≡ true
common_ancestor-some d t o u is e = text_from _ u (common_ancestor-text d t is o) e

pub absolute_under-some : (d e : Dialect) (directory t u : List ℕ) → is_utf8 directory ≡ true → is_utf8 t ≡ true → absolute_under d e directory t ≡ Some u → is_utf8 u ≡ true
absolute_under-some d e directory t u base is made = text_from _ u (absolute_under-text d e directory t base is) made

pub absolute_from-some : (d : Dialect) (directory t u : List ℕ) → is_utf8 directory ≡ true → is_utf8 t ≡ true → absolute_from d directory t ≡ Some u → is_utf8 u ≡ true
absolute_from-some d directory t u base is made = absolute_under-some d platform directory t u base is made

-- the components of a text are written as their dialect writes them, and stay so as some are taken
pub written-starts : (d : Dialect) (t : List ℕ) → parts (comps d t) ≡ as_written d (parts (comps d t))
written-starts d t = written-parts_of d t

pub written-front : (d : Dialect) (cs : List Placed) → parts cs ≡ as_written d (parts cs) → parts (drop 1 cs) ≡ as_written d (parts (drop 1 cs))
written-front d cs all = written-drop (written d) cs all

pub written-back : (d : Dialect) (cs : List Placed) → parts cs ≡ as_written d (parts cs) → parts (but_last cs) ≡ as_written d (parts (but_last cs))
written-back d cs all = written-but_last (written d) cs all

-- so is each that is taken
pub written-first_some : (d : Dialect) (p : Piece) (cs : List Placed) → parts cs ≡ as_written d (parts cs) → Some (part_of p) ≡ first_part cs → part_of p ≡ written d (part_of p)
written-first_some d p cs all e = written-first (written d) p cs all e

pub written-last_some : (d : Dialect) (p : Piece) (cs : List Placed) → parts cs ≡ as_written d (parts cs) → Some (part_of p) ≡ last_part cs → part_of p ≡ written d (part_of p)
written-last_some d p cs all e = written-last (written d) p cs all e

-- what a path of text answers and what changes it
pub ruleset text_laws = (IsUtf8-from_is_utf8, is_utf8-from_IsUtf8, string-text, components-text, single-text, first-text, last-text, parent-text, parent-some, ancestors-text, file_name-text, file_name-some, file_stem-text, file_stem-some, file_prefix-text, file_prefix-some, extension-text, extension-some, stem_of-text, extension_of-text, stripped-text, stripped-some, common_ancestor-text, common_ancestor-some, popped-text, without_file_name-text, push-text, push_all-text, normal_text-text, simplified-text, with_file_name-text, with_extension-text, with_added_extension-text, converted-text, converted_checked-text, absolute_under-text, absolute_under-some, absolute_from-some)

-- what is left of a reading
pub ruleset reading_laws = (IsUtf8-from_is_utf8, is_utf8-from_IsUtf8, reading-starts, reading-front, reading-back, reading-slice, reading-first, reading-last, reading-first_some, reading-last_some, reading-parts, reading-texts, reading-above, reading-behind, written-starts, written-front, written-back, written-first_some, written-last_some)

-- single components
pub ruleset component_laws = (IsUtf8-from_is_utf8, is_utf8-from_IsUtf8, slash-text, backslash-text, current-text, parent_part-text, name-text)
