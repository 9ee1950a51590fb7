-- The words of keys as bytes: how many they are, and how they come into a buffer one behind the other.
use Rattle.std.proofs.Common.{◌≡◌, ℕ, ◌+◌, ◌*◌, ◌≤◌, ◌<◌, ◌==◌, Bool, true, false, List, [], ◌∷◌, ◌++◌, length, take, drop, Option, Some, None, refl, sym, ap, ◌∙◌, arith, subst, append-nil, if◌then◌else◌, length-take-le, length-append, take_at, drop_at, take-append-drop}
use Rattle.std.specs.Prelude.{nat_lt}
use Rattle.std.specs.List.{concat, flat_map, AllByRecursion}
use Rattle.std.specs.Hash.{u8, usize, le_bytes}
use Rattle.std.specs.Int.{w64, to_le_bytes}
use Rattle.std.proofs.lemmas.Bool.{ltb-false, le-ltb}
use Rattle.std.proofs.lemmas.List.{append_assoc, drop-drop}
use Rattle.std.proofs.lemmas.List.Folds.{concat-append}
use Rattle.typed_path.specs.declared.scan.separators.Separators.{Separators}
use Rattle.typed_path.specs.declared.scan.separators.Separators.TheVariants.{Either}
use Rattle.typed_path.specs.components.{Dialect, unix, windows, Prefix, verbatim, verbatim_unc, verbatim_disk, device_ns, unc, disk, Kind, prefix, root, current, parent, normal, Part, Placed, kinds, parts, parts_of, comps, end_of, separators, Found, prefix_of, name, second_name, root_text}
use Rattle.typed_path.specs.scan.{AreInOrder, first_part}
use Rattle.typed_path.specs.order.{key_bytes, left_key_bytes, IsPutFrom, key_words_before, kind_key_words, kinds_key_words, length_prefixed, length_words}
use Rattle.typed_path.specs.queries.{first_prefix, behind_prefix, is_prefix}
use Rattle.typed_path.proofs.lemmas.lists.Lists.{AllByRecursion-weaker}
use Rattle.typed_path.proofs.lemmas.components.Cuts.{comps-laid_out}
use Rattle.typed_path.proofs.lemmas.components.PrefixNames.{second-stands}
use Rattle.typed_path.proofs.lemmas.components.Prefixes.{Read, of_verbatim_unc, of_verbatim_disk, of_verbatim, of_device, of_unc, of_disk, prefix-read, prefix-fits}
use Rattle.typed_path.proofs.lemmas.components.Segments.{IsWritten, IsWrittenPart, body_parts, body_parts-read, each-written, parts_behind, parts-comps_behind}

-- How many bytes the key of a path feeds.

le_bytes-size : (n : ℕ) → length (le_bytes 8 n) ≡ 8
unfolding le_bytes
le_bytes-size n = refl

-- bytes behind their number
prefixed-size : (a : List ℕ) → (length (concat (length_prefixed a)) ≤ 2 * length a + 1) × (1 ≤ length a → length (concat (length_prefixed a)) ≤ 2 * length a)
prefixed-size a = by (nat_lt (length a) 245) refl
  where
    by : (b : Bool) → nat_lt (length a) 245 ≡ b → (length (concat ((if b then u8 (10 + length a) else u8 255 ++ usize (length a)) ++ a ∷ [])) ≤ 2 * length a + 1)
        × (1 ≤ length a → length (concat ((if b then u8 (10 + length a) else u8 255 ++ usize (length a)) ++ a ∷ [])) ≤ 2 * length a)
    by true e = (omega (arith, ap length (append-nil a)), λ filled. omega (arith, filled, ap length (append-nil a)))
    by false e =
        let many : 245 ≤ length a = ltb-false (length a) 245 e in
        let size : length (le_bytes 8 (length a) ++ (a ++ [])) ≡ 8 + length a = omega (arith, ap length (append-nil a), le_bytes-size (length a), length-append (le_bytes 8 (length a)) (a ++ [])) in
        (omega (arith, many, size), λ filled. omega (arith, many, size))

prefixed-some : (a : List ℕ) → 1 ≤ length (concat (length_prefixed a))
prefixed-some a = by (nat_lt (length a) 245)
  where
    by : (b : Bool) → 1 ≤ length (concat ((if b then u8 (10 + length a) else u8 255 ++ usize (length a)) ++ a ∷ []))
    by true = omega arith
    by false = omega arith

-- and those of two
both-size : (a b : List ℕ) → length (concat (length_prefixed a ++ length_prefixed b)) ≤ 2 * length a + 2 * length b + 2
both-size a b =
    omega (arith, ap length (concat-append (length_prefixed a) (length_prefixed b)), length-append (concat (length_prefixed a)) (concat (length_prefixed b)), (prefixed-size a).0, (prefixed-size b).0)

abbrev key_size : Kind → ℕ
key_size k = length (concat (kind_key_words k))

root-size : (s : Separators) → 1 ≤ length (root_text s)
root-size s = grind arith

filled-length : (a : List ℕ) → (length a == 0) ≡ false → 1 ≤ length a
filled-length [] filled = cc filled
filled-length (x ∷ a) filled = omega arith

-- a component behind the prefix feeds at most twice its bytes
written-size : (s : Separators) (k : Kind) (text : List ℕ) → IsWritten s k text → key_size k ≤ 2 * length text
written-size s (prefix p) text written = absurd written
written-size s root text written = omega (arith, ap length written, root-size s)
written-size s current text written = omega (arith, ap length written)
written-size s parent text written = omega (arith, ap length written)
written-size s (normal a) text written = omega (arith, ap length written.0, (prefixed-size a).1 (filled-length a written.1.filled))

-- so does the prefix
read-size : (s : Separators) (t : List ℕ) (f : Found) → Read s t f → key_size (prefix f.prefix) ≤ 2 * f.length
read-size s t _ (of_verbatim_unc rest mark filled) =
    let st = second-stands s rest in
    omega (arith, both-size (name s rest) (second_name s rest), st.short, st.behind)
read-size s t _ (of_unc rest mark filled no_verbatim no_device) =
    let st = second-stands Either rest in
    omega (arith, both-size (name Either rest) (second_name Either rest), st.short, st.behind)
read-size s t _ (of_verbatim rest mark filled no_unc no_drive) = omega (arith, (prefixed-size (name s rest)).0)
read-size s t _ (of_device rest mark filled) = omega (arith, (prefixed-size (name Either rest)).0)
read-size s t _ (of_verbatim_disk rest letter mark drives) = omega arith
read-size s t _ (of_disk letter drives) = omega arith

prefix-size : (d : Dialect) (t : List ℕ) (f : Found) → prefix_of d t ≡ Some f → key_size (prefix f.prefix) ≤ 2 * length (take f.length t)
prefix-size unix t f e = cc e
prefix-size windows t f e =
    omega (arith, read-size (separators windows t) t f (prefix-read t f e), length-take-le f.length t (prefix-fits windows t f e).fits)

-- and so does each component of a path
body-sizes : (s : Separators) (text : List ℕ) → AllByRecursion (λ p. key_size p.kind ≤ 2 * length p.text) (body_parts s text)
body-sizes s text =
    AllByRecursion-weaker (IsWrittenPart s) (λ p. key_size p.kind ≤ 2 * length p.text) (λ p written. written-size s p.kind p.text written) (body_parts s text) (each-written s (body_parts s text) (body_parts-read s text))

path-sizes : (d : Dialect) (t : List ℕ) → AllByRecursion (λ p. key_size p.kind ≤ 2 * length p.text) (parts_of d t)
path-sizes d t = subst (AllByRecursion (λ p. key_size p.kind ≤ 2 * length p.text)) (sym (parts-comps_behind (separators d t) t (prefix_of d t))) (by (prefix_of d t) refl)
  where
    by : (o : Option Found) → prefix_of d t ≡ o → AllByRecursion (λ p. key_size p.kind ≤ 2 * length p.text) (parts_behind (separators d t) t o)
    by None e = body-sizes (separators d t) t
    by (Some f) e = (prefix-size d t f e, body-sizes (separators d t) (drop f.length t))

-- the bytes of a component, and those of the others
pub fed-split : (c : Placed) (cs : List Placed) → left_key_bytes (c ∷ cs) ≡ concat (kind_key_words c.part.kind) ++ left_key_bytes cs
fed-split c cs =
    ap concat (append_assoc (kind_key_words c.part.kind) (flat_map kind_key_words (kinds (parts cs))) (u8 0)) ∙ concat-append (kind_key_words c.part.kind) (kinds_key_words (kinds (parts cs)))

fed-size : (at end : ℕ) (cs : List Placed) → AreInOrder at end cs → AllByRecursion (λ p. key_size p.kind ≤ 2 * length p.text) (parts cs) → length (left_key_bytes cs) + 2 * at ≤ 2 * end + 1
fed-size at end [] order sizes = omega (arith, order)
fed-size at end (c ∷ cs) order sizes =
    omega (arith, order.0, sizes.0, fed-size (end_of c) end cs order.1 sizes.1, ap length (fed-split c cs), length-append (concat (kind_key_words c.part.kind)) (left_key_bytes cs))

-- the key of a path feeds at most twice the bytes of the path, and one
pub key_bytes_size : (d : Dialect) (t : List ℕ) → length (key_bytes d t) ≤ 2 * length t + 1
key_bytes_size d t = omega (arith, fed-size 0 (length t) (comps d t) (comps-laid_out d t).in_order (path-sizes d t))

-- a component feeds some bytes
some_bytes : (k : Kind) → 1 ≤ key_size k
some_bytes (prefix (verbatim a)) = omega arith
some_bytes (prefix (verbatim_unc a b)) = omega arith
some_bytes (prefix (verbatim_disk l)) = omega arith
some_bytes (prefix (device_ns a)) = omega arith
some_bytes (prefix (unc a b)) = omega arith
some_bytes (prefix (disk l)) = omega arith
some_bytes root = omega arith
some_bytes current = omega arith
some_bytes parent = omega arith
some_bytes (normal a) = omega (arith, prefixed-some a)

-- so fewer are left behind it
pub fewer_bytes : (cs ds : List Placed) (p : Part) → Some p ≡ first_part cs → ds ≡ drop 1 cs → length (left_key_bytes ds) < length (left_key_bytes cs)
fewer_bytes [] ds p first rest = cc first
fewer_bytes (c ∷ cs) ds p first rest =
    omega (arith, ap length (fed-split c cs), length-append (concat (kind_key_words c.part.kind)) (left_key_bytes cs), some_bytes c.part.kind, ap (λ es. length (left_key_bytes es)) rest)

-- Bytes that are put into a buffer.

-- bytes behind others
pub put_both : (at middle end : ℕ) (us vs old half new : List ℕ) → IsPutFrom at us old half middle → IsPutFrom middle vs half new end → IsPutFrom at (us ++ vs) old new end
put_both at middle end us vs old half new first second = record {
  ends = second.ends ∙ omega (arith, first.ends, length-append us vs);
  long = second.long ∙ first.long;
  put = λ fits.
      let within : middle ≤ length old = omega (arith, fits, second.ends) in
      let whole : half ≡ take at old ++ us ++ drop middle old = first.put within in
      let size : length (take at old ++ us) ≡ middle = omega (arith, length-append (take at old) us, length-take-le at old (omega (arith, within, first.ends)), first.ends) in
      let front : take middle half ≡ take at old ++ us = ap (take middle) whole ∙ take_at (take at old ++ us) (drop middle old) middle (omega (arith, size)) in
      let rest : drop middle half ≡ drop middle old = ap (drop middle) whole ∙ drop_at (take at old ++ us) (drop middle old) middle (omega (arith, size)) in
      let behind : drop end half ≡ drop end old =
      ap (λ n. drop n half) second.ends ∙ sym (drop-drop (length vs) middle half) ∙ ap (drop (length vs)) rest ∙ drop-drop (length vs) middle old ∙ ap (λ n. drop n old) (sym second.ends) in
      second.put (omega (arith, fits, first.long))
      ∙ ap (λ xs. xs ++ vs ++ drop end half) front
      ∙ ap (λ xs. take at old ++ us ++ vs ++ xs) behind
      ∙ ap (λ xs. xs ++ drop end old) (append_assoc (take at old) us vs);
}

-- nothing
pub put_none : (at : ℕ) (old : List ℕ) → IsPutFrom at [] old old at
put_none at old = record {
  ends = omega arith;
  long = refl;
  put = λ fits. sym (ap (λ xs. xs ++ drop at old) (append-nil (take at old)) ∙ take-append-drop at old);
}

-- the same bytes, as another list
pub put_same : (at end : ℕ) (us vs old new : List ℕ) → us ≡ vs → IsPutFrom at us old new end → IsPutFrom at vs old new end
put_same at end us vs old new same put = subst (λ xs. IsPutFrom at xs old new end) same put

-- a number of bytes
pub long_count : (n : ℕ) → 245 ≤ n → concat (length_words n) ≡ 255 ∷ to_le_bytes w64 n
unfolding le_bytes
long_count n many = ap (λ b. concat (if b then u8 (10 + n) else u8 255 ++ usize n)) (le-ltb n 245 many) ∙ ap (λ bs. 255 ∷ bs) (append-nil (to_le_bytes w64 n))

-- words of several
pub prefixed-bytes : (a : List ℕ) → concat (length_words (length a)) ++ a ≡ concat (length_prefixed a)
prefixed-bytes a = sym (concat-append (length_words (length a)) (a ∷ []) ∙ ap (λ xs. concat (length_words (length a)) ++ xs) (append-nil a))

pub twice_prefixed-bytes : (a b : List ℕ) → concat (length_prefixed a) ++ concat (length_prefixed b) ≡ concat (length_prefixed a ++ length_prefixed b)
twice_prefixed-bytes a b = sym (concat-append (length_prefixed a) (length_prefixed b))

-- A walk over the components, which puts the bytes of each.

-- so much was put of all bytes, and those of these components are left
pub record IsPutSoFar (all old : List ℕ) (cs : List Placed) (out : List ℕ) (at : ℕ) : Type 0 where
  pub gone : List ℕ
  pub split : all ≡ gone ++ left_key_bytes cs
  pub put : IsPutFrom 0 gone old out at

-- the bytes of the prefix, and those of what stands behind it
abbrev SplitsAs : Placed → List Placed → Kind → Type 0
SplitsAs c cs k = left_key_bytes (c ∷ cs) ≡ concat (key_words_before (first_prefix (k ∷ kinds (parts cs)))) ++ left_key_bytes (if is_prefix k then cs else c ∷ cs)

pub prefix-split : (cs : List Placed) → left_key_bytes cs ≡ concat (key_words_before (first_prefix (kinds (parts cs)))) ++ left_key_bytes (behind_prefix cs)
prefix-split [] = refl
prefix-split (c ∷ cs) = by c.part.kind refl
  where
    by : (k : Kind) → c.part.kind ≡ k → SplitsAs c cs c.part.kind
    by (prefix p) e = subst (SplitsAs c cs) (sym e) (fed-split c cs ∙ ap (λ k. concat (kind_key_words k) ++ left_key_bytes cs) e)
    by root e = subst (SplitsAs c cs) (sym e) refl
    by current e = subst (SplitsAs c cs) (sym e) refl
    by parent e = subst (SplitsAs c cs) (sym e) refl
    by (normal name) e = subst (SplitsAs c cs) (sym e) refl

module _ (all old : List ℕ) where
  -- the prefix was put, where there is one
  pub put_first : (cs ds : List Placed) (o : Option Prefix) (out : List ℕ) (at : ℕ) → all ≡ left_key_bytes cs → o ≡ first_prefix (kinds (parts cs)) → ds ≡ behind_prefix cs
      → IsPutFrom 0 (concat (key_words_before o)) old out at → IsPutSoFar all old ds out at
  put_first cs ds o out at e first behind put = record {
    gone = concat (key_words_before o);
    split = e ∙ prefix-split cs ∙ (λ i. concat (key_words_before (sym first i)) ++ left_key_bytes (sym behind i));
    put = put;
  }

  -- the same, by other names
  pub moved : (cs : List Placed) (out new : List ℕ) (at end : ℕ) → new ≡ out → end ≡ at → IsPutSoFar all old cs out at → IsPutSoFar all old cs new end
  moved cs out new at end same there so_far = subst (λ o. IsPutSoFar all old cs o end) (sym same) (subst (λ n. IsPutSoFar all old cs out n) (sym there) so_far)

  -- which has no more bytes than all
  pub first_fits : (cs : List Placed) (o : Option Prefix) → all ≡ left_key_bytes cs → o ≡ first_prefix (kinds (parts cs)) → length (concat (key_words_before o)) ≤ length all
  first_fits cs o e first =
      let front : length (concat (key_words_before o)) ≡ length (concat (key_words_before (first_prefix (kinds (parts cs))))) = ap (λ q. length (concat (key_words_before q))) first in
      omega (arith, ap length (e ∙ prefix-split cs), length-append (concat (key_words_before (first_prefix (kinds (parts cs))))) (left_key_bytes (behind_prefix cs)), front)

  -- a component was put
  pub put_more : (cs ds : List Placed) (p : Part) (out new : List ℕ) (at end : ℕ) → Some p ≡ first_part cs → ds ≡ drop 1 cs
      → IsPutSoFar all old cs out at → IsPutFrom at (concat (kind_key_words p.kind)) out new end → IsPutSoFar all old ds new end
  put_more [] ds p out new at end first rest so_far put = cc first
  put_more (c ∷ cs) ds p out new at end first rest so_far put =
      let same : p ≡ c.part = cc first in
      let own = concat (kind_key_words c.part.kind) in
      record {
        gone = so_far.gone ++ own;
        split = so_far.split ∙ ap (λ xs. so_far.gone ++ xs) (fed-split c cs) ∙ sym (append_assoc so_far.gone own (left_key_bytes cs))
            ∙ ap (λ es. so_far.gone ++ own ++ left_key_bytes es) (sym rest);
        put = put_both 0 at end so_far.gone own old out new so_far.put (subst (λ q. IsPutFrom at (concat (kind_key_words q.kind)) out new end) same put);
      }

  pub more_fits : (cs : List Placed) (p : Part) (out : List ℕ) (at : ℕ) → Some p ≡ first_part cs → IsPutSoFar all old cs out at → at + length (concat (kind_key_words p.kind)) ≤ length all
  more_fits [] p out at first so_far = cc first
  more_fits (c ∷ cs) p out at first so_far =
      let same : p ≡ c.part = cc first in
      let own : length (concat (kind_key_words p.kind)) ≡ length (concat (kind_key_words c.part.kind)) = ap (λ q. length (concat (kind_key_words q.kind))) same in
      omega (arith, own, ap length so_far.split, length-append so_far.gone (left_key_bytes (c ∷ cs)), ap length (fed-split c cs), length-append (concat (kind_key_words c.part.kind)) (left_key_bytes cs), so_far.put.ends)

  -- a run of bytes was put, and those of fewer components are left
  pub put_run : (cs ds : List Placed) (run out new : List ℕ) (at end : ℕ) → left_key_bytes cs ≡ run ++ left_key_bytes ds → IsPutSoFar all old cs out at → IsPutFrom at run out new end → IsPutSoFar all old ds new end
  put_run cs ds run out new at end left so_far put = record {
    gone = so_far.gone ++ run;
    split = so_far.split ∙ ap (λ xs. so_far.gone ++ xs) left ∙ sym (append_assoc so_far.gone run (left_key_bytes ds));
    put = put_both 0 at end so_far.gone run old out new so_far.put put;
  }

  pub run_fits : (cs ds : List Placed) (run out : List ℕ) (at : ℕ) → left_key_bytes cs ≡ run ++ left_key_bytes ds → IsPutSoFar all old cs out at → at + length run ≤ length all
  run_fits cs ds run out at left so_far =
      omega (arith, ap length so_far.split, length-append so_far.gone (left_key_bytes cs), ap length left, length-append run (left_key_bytes ds), so_far.put.ends)

  -- no bytes were put, and the same ones are left
  pub put_no_run : (cs ds : List Placed) (block out : List ℕ) (at count : ℕ) → count ≡ 0 → left_key_bytes cs ≡ take count block ++ left_key_bytes ds → IsPutSoFar all old cs out at
      → IsPutSoFar all old ds out at × (length (left_key_bytes ds) ≡ length (left_key_bytes cs))
  put_no_run cs ds block out at count none left so_far =
      let same = left ∙ ap (λ n. take n block ++ left_key_bytes ds) none in
      (put_run cs ds [] out out at at same so_far (put_none at out), ap length (sym same))

  -- all were put, and the word behind them
  pub put_last : (cs : List Placed) (out new : List ℕ) (at end : ℕ) → None ≡ first_part cs → IsPutSoFar all old cs out at → IsPutFrom at (0 ∷ []) out new end → IsPutFrom 0 all old new end
  put_last [] out new at end none so_far put = put_same 0 end (so_far.gone ++ 0 ∷ []) all old new (sym so_far.split) (put_both 0 at end so_far.gone (0 ∷ []) old out new so_far.put put)
  put_last (c ∷ cs) out new at end none so_far put = cc none

  pub last_fits : (cs : List Placed) (out : List ℕ) (at : ℕ) → None ≡ first_part cs → IsPutSoFar all old cs out at → at + 1 ≤ length all
  last_fits [] out at none so_far = omega (arith, ap length so_far.split, length-append so_far.gone (left_key_bytes []), so_far.put.ends)
  last_fits (c ∷ cs) out at none so_far = cc none
