-- The clean text of a path, as it is written behind a text.
use Rattle.std.proofs.Common.{◌≡◌, ℕ, suc, ◌+◌, ◌-◌, ◌<◌, ◌≤◌, ◌==◌, ◌||◌, ◌&&◌, not, Bool, true, false, List, [], ◌∷◌, ◌++◌, if◌then◌else◌, length, take, drop, sym, ap, ◌∙◌, append_assoc, append-nil, arith, subst, length-append, ne_eqb, Some, None}
use Rattle.std.proofs.lemmas.Grind.{common_steps}
use Rattle.std.specs.List.{join_with_byte}
use Rattle.std.proofs.lemmas.List.{take_at}
use Rattle.std.proofs.Math.Bool.{or-true}
use Rattle.typed_path.specs.declared.scan.separators.Separators.{Separators}
use Rattle.typed_path.specs.declared.scan.separators.Separators.TheVariants.{Either}
use Rattle.typed_path.specs.components.{Dialect, windows, separators, dialect_of, Part, parts, kinds, body, Found, prefix_of}
use Rattle.typed_path.specs.places.{row_end, rows_of, behind_head, cleaned, clean_text, kept_segments, own_separator, segment_kinds, unheaded}
use Rattle.typed_path.specs.queries.{begins_with_root, is_disk}
use Rattle.typed_path.proofs.lemmas.components.PrefixCuts.{plain-none, parts_of-some}
use Rattle.typed_path.proofs.lemmas.components.Segments.{AreRead, body_parts-read, parts-body}
use Rattle.typed_path.proofs.lemmas.places.CleanRows.{body-alike}

-- rows are the segments with one separator between, and one more
pub rows-joined : (s : Separators) (segment : List ℕ) (segments : List (List ℕ)) → rows_of s (segment ∷ segments) ≡ join_with_byte (row_end s) (segment ∷ segments) ++ row_end s ∷ []
rows-joined s segment [] = append-nil (segment ++ row_end s ∷ [])
rows-joined s segment (next ∷ segments) = grind (arith, common_steps, append_assoc, rows-joined s next segments)

-- the separator that a text writes is its dialect's
pub row_end-own : (s : Separators) → row_end s ≡ own_separator (dialect_of s)
row_end-own s = grind arith

-- Rows behind a head, without the separator behind them.

module _ (s : Separators) (old raw text new : List ℕ) (rooted implied : Bool) (alone : ℕ) (segments : List (List ℕ)) where
  abbrev sep : List ℕ
  sep = row_end s ∷ []

  abbrev front : Bool → List ℕ
  front there = (old ++ raw) ++ (if there then sep else [])

  -- the bytes that stand in any case, and what is left once the last byte behind them is gone
  pub closed-text : text ≡ front (implied || rooted) ++ rows_of s segments → alone ≡ length (old ++ raw) + length (if rooted then sep else [])
      → (alone < length text → new ≡ take (length text - 1) text) → (length text ≤ alone → new ≡ text)
      → new ≡ old ++ behind_head (row_end s) raw rooted implied segments
  closed-text is at named stays = by segments is
    where
      size : (there : Bool) → length (front there) ≡ length (old ++ raw) + (if there then 1 else 0)
      size there = grind (arith, length-append)

      grouped : (b : List ℕ) (joined : List ℕ) → ((old ++ raw) ++ b) ++ joined ≡ old ++ ((raw ++ b) ++ joined)
      grouped b joined = ap (λ t. t ++ joined) (append_assoc old raw b) ∙ append_assoc old (raw ++ b) joined

      none : (r i : Bool) → text ≡ front (i || r) ++ [] → alone ≡ length (old ++ raw) + length (if r then sep else [])
          → new ≡ old ++ ((raw ++ (if r || (i && false) then sep else [])) ++ [])
      none r i e f = grind (arith, or-true, append-nil, size, grouped, take_at)

      some : (segment : List ℕ) (more : List (List ℕ)) → text ≡ front (implied || rooted) ++ rows_of s (segment ∷ more)
          → new ≡ old ++ ((raw ++ (if rooted || (implied && not (suc (length more) == 0)) then sep else [])) ++ join_with_byte (row_end s) (segment ∷ more))
      some segment more e =
          let joined = join_with_byte (row_end s) (segment ∷ more) in
          let head = front (implied || rooted) in
          let whole : text ≡ (head ++ joined) ++ sep = e ∙ ap (λ t. head ++ t) (rows-joined s segment more) ∙ sym (append_assoc head joined sep) in
          let long : length text ≡ length head + length joined + 1 = ap length whole ∙ length-append (head ++ joined) sep ∙ ap (λ n. n + 1) (length-append head joined) in
          named (fits implied rooted long at)
          ∙ ap (take (length text - 1)) whole
          ∙ take_at (head ++ joined) sep _ (omega (arith, long, length-append head joined))
          ∙ same implied rooted (ne_eqb (suc (length more)) 0 (λ z. cc))
        where
          fits : (i r : Bool) → length text ≡ length (front (i || r)) + length (join_with_byte (row_end s) (segment ∷ more)) + 1 → alone ≡ length (old ++ raw) + length (if r then sep else []) → alone < length text
          fits i r e f = grind (arith, size)

          same : (i r : Bool) → (suc (length more) == 0) ≡ false → front (i || r) ++ join_with_byte (row_end s) (segment ∷ more)
              ≡ old ++ ((raw ++ (if r || (i && not (suc (length more) == 0)) then sep else [])) ++ join_with_byte (row_end s) (segment ∷ more))
          same i r z = grind (arith, grouped)

      by : (ss : List (List ℕ)) → text ≡ front (implied || rooted) ++ rows_of s ss → new ≡ old ++ behind_head (row_end s) raw rooted implied ss
      by [] e = none rooted implied e at
      by (segment ∷ more) e = some segment more e

-- segments are kept as the components of the text are
pub kept-body : (s : Separators) (anchored : Bool) (text : List ℕ) → kept_segments anchored (segment_kinds s text) ≡ kept_segments anchored (kinds (parts (body s 0 text)))
kept-body s anchored text = grind (arith, body-alike)

-- Clean texts, by what a list begins with.

-- a root
pub cleaned-rooted : (d : Dialect) (ps : List Part) → begins_with_root (kinds ps) ≡ true → cleaned d ps ≡ behind_head (own_separator d) [] true false (kept_segments true (kinds ps))
cleaned-rooted d ps e = grind arith

-- neither a root nor a prefix
cleaned-read : (d : Dialect) (s : Separators) (ps : List Part) → AreRead s ps → begins_with_root (kinds ps) ≡ false
    → cleaned d ps ≡ unheaded d (join_with_byte (own_separator d) (kept_segments false (kinds ps)))
cleaned-read d s ps read e = grind arith

pub cleaned-bare : (d : Dialect) (s : Separators) (text : List ℕ) → begins_with_root (kinds (parts (body s 0 text))) ≡ false
    → cleaned d (parts (body s 0 text)) ≡ unheaded d (join_with_byte (own_separator d) (kept_segments false (kinds (parts (body s 0 text)))))
cleaned-bare d s text e = cleaned-read d s (parts (body s 0 text)) (subst (AreRead s) (sym (parts-body s 0 text)) (body_parts-read s text)) e

-- a prefix
pub cleaned-prefixed : (path : List ℕ) (f : Found) → prefix_of windows path ≡ Some f
    → behind_head (row_end (separators windows path)) (take f.length path) (begins_with_root (kinds (parts (body (separators windows path) 0 (drop f.length path))))) (not (is_disk f.prefix))
    (kept_segments (not (is_disk f.prefix) || begins_with_root (kinds (parts (body (separators windows path) 0 (drop f.length path))))) (kinds (parts (body (separators windows path) 0 (drop f.length path)))))
    ≡ clean_text windows path
cleaned-prefixed path f is = grind (arith, parts-body, parts_of-some)

-- What is put for each of them.

module _ (s : Separators) (text : List ℕ) (rooted : Bool) (told : rooted ≡ begins_with_root (kinds (parts (body s 0 text)))) where
  abbrev bare_text : List ℕ
  bare_text = behind_head (row_end s) [] rooted false (kept_segments (false || rooted) (kinds (parts (body s 0 text))))

  -- no root
  pub loose-text : rooted ≡ false → unheaded (dialect_of s) bare_text ≡ cleaned (dialect_of s) (parts (body s 0 text))
  loose-text e = grind arith

-- a prefix, and what is behind it
pub prefixed-text : (path : List ℕ) (f : Found) (s : Separators) (rooted drives : Bool) → prefix_of windows path ≡ Some f → s ≡ separators windows path
    → rooted ≡ begins_with_root (kinds (parts (body s 0 (drop f.length path)))) → drives ≡ is_disk f.prefix
    → behind_head (row_end s) (take f.length path) rooted (not drives) (kept_segments (not drives || rooted) (kinds (parts (body s 0 (drop f.length path))))) ≡ clean_text windows path
prefixed-text path f s rooted drives is own told drive = rw (told, drive, own) (cleaned-prefixed path f is)

-- Texts by the encoding.

-- a text of Windows without a prefix
pub clean_text-none : (path : List ℕ) → prefix_of windows path ≡ None → cleaned windows (parts (body Either 0 path)) ≡ clean_text windows path
clean_text-none path h = grind (arith, plain-none)
