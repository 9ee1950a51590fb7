-- What a path is read as once it is converted, and what comes back.
use Rattle.std.proofs.Common.{◌≡◌, ℕ, ◌-◌, ◌==◌, ◌||◌, Bool, true, false, if◌then◌else◌, List, [], ◌∷◌, ◌++◌, map, length, slice_index, None, Ok, refl, sym, ap, ap₂, ◌∙◌, subst, append_assoc, append-nil, ne_eqb, true≢false, arith, take, drop, Option, Some, inl, inr, eqb-true, length-append}
use Rattle.std.proofs.lemmas.Grind.{common_steps}
use Rattle.std.specs.List.{AllByRecursion, list_any}
use Rattle.std.proofs.lemmas.Bool.{and_parts, cond-false, false_from_ne_true, and_left, both_ways, cases_Bool, not-true}
use Rattle.std.proofs.lemmas.List.Elements.{All-head, filter-append}
use Rattle.std.proofs.Math.Bool.{or-false}
use Rattle.std.proofs.Math.Dec.{eqb-suc-zero}
use Rattle.typed_path.specs.declared.scan.separators.Separators.TheVariants.{Slash, Either}
use Rattle.typed_path.specs.declared.scan.separators.Separators.{Separators}
use Rattle.typed_path.specs.components.{unix, windows, backslash, dot, is_separator, slash, root_of, separators, Kind, prefix, root, current, parent, normal, Part, kinds, texts, parent_part, name_part, root_part, Prefix, disk, prefix_part, prefix_of, Found, drive, parts_of, written_windows}
use Rattle.typed_path.specs.queries.{begins_with_root, has_prefix, have_allowed_bytes, is_disk, is_root}
use Rattle.typed_path.specs.changes.{is_disk_alone, ended_with, push_windows, push_all, push_unix}
use Rattle.typed_path.specs.conversions.{crossed, crossed_all, converted_checked}
use Rattle.typed_path.specs.promises.{lack_backslash, CrossesAsItIs, parents_and_names, on_unix, CrossesToUnix, CrossesBack}
use Rattle.typed_path.proofs.lemmas.components.Segments.{pieces, later_parts, body_parts, body_parts-read, IsWritten, IsLater, IsLaterPart, AreRead, IsCleanName, IsWritten-later, parts_of-unix, later_parts-name, body_parts-name, body_parts-ended}
use Rattle.typed_path.proofs.lemmas.components.WindowsNames.{IsPlain, plain-no_prefix, rooted-none, plain-read, a_name, ended_with-append, ended-spelled, plain-clean, allowed-plain}
use Rattle.typed_path.proofs.lemmas.components.FirmPrefixes.{nothing, parted}
use Rattle.typed_path.proofs.lemmas.components.PrefixCuts.{parts_of-none, parts_of-some, verbatim-none}
use Rattle.typed_path.proofs.lemmas.conversions.Crossings.{crossed-plain, valid-allowed, converted_checked-ok}
use Rattle.typed_path.proofs.lemmas.promises.WindowsBases.{read-no_drive}
use Rattle.typed_path.proofs.lemmas.promises.WindowsStable.{push-first}
use Rattle.typed_path.proofs.lemmas.promises.UnixContained.{push_unix-name, push_unix-behind}
use Rattle.typed_path.proofs.lemmas.components.Prefixes.{OfWindows, separators-windows, Read, of_disk, prefix-read, prefix_of-unseparated}

-- What a path of Unix is read as once it is converted to Windows.

-- a parent or a plain name: what stands behind the first component
pub data IsStep : Part → Type 0 where
  a_parent : IsStep parent_part
  a_plain : (name : List ℕ) → IsPlain name → IsStep (name_part name)

-- what a step is read as, alone and behind a separator
pub record IsReadAlone (p : Part) (b : ℕ) (bs : List ℕ) : Type 0 where
  pub text : p.text ≡ b ∷ bs
  pub unseparated : is_separator Either b ≡ false
  pub alone : parts_of windows (b ∷ bs) ≡ p ∷ []
  pub later : later_parts Either (pieces Either (b ∷ bs)) ≡ p ∷ []
  pub no_prefix : has_prefix (p.kind ∷ []) ≡ false
  pub relative : begins_with_root (p.kind ∷ []) ≡ false

-- each step has a first byte and is read so
pub step-read : (p : Part) → IsStep p → (b : ℕ) × (bs : List ℕ) × IsReadAlone p b bs
step-read _ a_parent = (dot, dot ∷ [], record { text = refl; unseparated = refl; alone = refl; later = refl; no_prefix = refl; relative = refl })
step-read _ (a_plain [] plain) = let clean = plain.clean in absurd (true≢false clean.filled)
step-read _ (a_plain (b ∷ bs) plain) =
    let clean = plain.clean in (
      b,
      bs,
      record {
        text = refl;
        unseparated = All-head (λ c. is_separator Either c ≡ false) b bs clean.unseparated;
        alone = plain-read (b ∷ bs) plain;
        later = later_parts-name Either (b ∷ bs) clean;
        no_prefix = refl;
        relative = refl;
      },
    )

-- a text without a prefix, which has none either once something stands behind a separator at its end
pub record IsBare (text : List ℕ) : Type 0 where
  pub filled : (length text == 0) ≡ false
  pub no_prefix : prefix_of windows text ≡ None
  pub stays : (b : ℕ) (rest : List ℕ) → is_separator Either b ≡ false → prefix_of windows (ended_with backslash text ++ b ∷ rest) ≡ None

-- such are a root, a current, a parent and a plain name
pub bare-root : IsBare (backslash ∷ [])
bare-root = record { filled = refl; no_prefix = refl; stays = rooted-none }

pub bare-current : IsBare (dot ∷ [])
bare-current = record { filled = refl; no_prefix = refl; stays = λ b rest plain. prefix_of-unseparated dot (backslash ∷ b ∷ rest) refl refl }

pub bare-parent : IsBare (dot ∷ dot ∷ [])
bare-parent = record { filled = refl; no_prefix = refl; stays = λ b rest plain. prefix_of-unseparated dot (dot ∷ backslash ∷ b ∷ rest) refl refl }

pub bare-name : (name : List ℕ) → IsPlain name → IsBare name
bare-name name plain =
    let clean = plain.clean in
    record {
      filled = clean.filled;
      no_prefix = ap (prefix_of windows) (sym (append-nil name)) ∙ plain-no_prefix name [] plain nothing;
      stays = λ b rest other.
          ap (prefix_of windows) (ended-spelled (name_part name) [] (b ∷ rest) (a_name name plain) tt ∙ append_assoc name (backslash ∷ []) (b ∷ rest))
          ∙ plain-no_prefix name (backslash ∷ b ∷ rest) plain (parted backslash (b ∷ rest) refl);
    }

-- a text with a separator at its end begins as it did
ended-first : (b : ℕ) (bs : List ℕ) → (more : List ℕ) × (ended_with backslash (b ∷ bs) ≡ b ∷ more)
ended-first b bs = by (length (b ∷ bs) == 0 || slice_index (b ∷ bs) (length (b ∷ bs) - 1) == backslash)
  where
    by : (ended : Bool) → (more : List ℕ) × ((if ended then b ∷ bs else b ∷ bs ++ backslash ∷ []) ≡ b ∷ more)
    by true = (bs, refl)
    by false = (bs ++ backslash ∷ [], refl)

module _ (text : List ℕ) (bare : IsBare text) where
  -- a step behind it leaves it so
  pub bare-next : (b : ℕ) (bs : List ℕ) → is_separator Either b ≡ false → IsBare (ended_with backslash text ++ b ∷ bs)
  bare-next b bs plain =
      let front = ended_with backslash text in
      let first = ended-first b bs in
      record {
        filled = ne_eqb (length (front ++ b ∷ bs)) 0 (λ none. omega (arith, none, length-append front (b ∷ bs)));
        no_prefix = bare.stays b bs plain;
        stays = λ c rest other.
            ap (λ t. prefix_of windows (t ++ c ∷ rest)) (ended_with-append backslash front (b ∷ bs) (eqb-suc-zero (length bs)) ∙ ap (λ t. front ++ t) first.1)
            ∙ ap (prefix_of windows) (append_assoc front (b ∷ first.0) (c ∷ rest))
            ∙ bare.stays b (first.0 ++ c ∷ rest) plain;
      }

  -- it is read as a body
  bare-read : parts_of windows text ≡ body_parts Either text
  bare-read = parts_of-none text bare.no_prefix

  -- it is no drive alone
  bare-no_drive : is_disk_alone (kinds (parts_of windows text)) ≡ false
  bare-no_drive = ap (λ ps. is_disk_alone (kinds ps)) bare-read ∙ false_from_ne_true _ (read-no_drive Either (body_parts Either text) (body_parts-read Either text))

  -- so a step is pushed behind a separator
  pub push-step : (p : Part) (b : ℕ) (bs : List ℕ) → IsReadAlone p b bs → push_windows text p.text ≡ ended_with backslash text ++ b ∷ bs
  push-step p b bs is = grind (arith, verbatim-none, cond-false, bare-no_drive)

-- steps pushed one by one add one component each
push_all-steps : (text : List ℕ) (ps : List Part) → IsBare text → AllByRecursion IsStep ps → parts_of windows (push_all windows text (texts ps)) ≡ body_parts Either text ++ ps
push_all-steps text [] bare steps = bare-read text bare ∙ sym (append-nil (body_parts Either text))
push_all-steps text (p ∷ ps) bare steps =
    let own = step-read p steps.0 in
    let is = own.2 in
    let front = ended_with backslash text in
    ap (λ t. parts_of windows (push_all windows t (texts ps))) (push-step text bare p own.0 own.1 is)
    ∙ push_all-steps (front ++ own.0 ∷ own.1) ps (bare-next text bare own.0 own.1 is.unseparated) steps.1
    ∙ ap (λ qs. qs ++ ps) (body_parts-ended Either backslash text (own.0 ∷ own.1) refl bare.filled ∙ ap (λ qs. body_parts Either text ++ qs) is.later)
    ∙ append_assoc (body_parts Either text) (p ∷ []) ps

-- a later component of Unix without `\` that has allowed bytes is a step
later-step : (k : Kind) (text : List ℕ) → IsLater Slash k text → lack_backslash (k ∷ []) ≡ true → have_allowed_bytes windows (k ∷ []) ≡ true → IsStep (record { kind = k; text = text })
later-step (prefix p) text later lacks allowed = absurd later
later-step root text later lacks allowed = absurd later
later-step current text later lacks allowed = absurd (true≢false (sym later.0))
later-step parent text later lacks allowed = subst (λ t. IsStep (record { kind = parent; text = t })) (sym later) a_parent
later-step (normal name) text later lacks allowed =
    subst (λ t. IsStep (record { kind = normal name; text = t })) (sym later.0) (a_plain name (crossed-plain name later.1 lacks allowed))

pub later-steps : (ps : List Part) → AllByRecursion (IsLaterPart Slash) ps → lack_backslash (kinds ps) ≡ true → have_allowed_bytes windows (kinds ps) ≡ true → AllByRecursion IsStep ps
later-steps [] later lacks allowed = tt
later-steps (p ∷ ps) later lacks allowed =
    let without = and_parts _ (lack_backslash (kinds ps)) lacks in
    let own = and_parts _ (have_allowed_bytes windows (kinds ps)) allowed in
    (later-step p.kind p.text later.0 (rw without.0 refl) (rw own.0 refl), later-steps ps later.1 without.1 own.1)

-- steps are written on Windows as they are
step-crossed : (p : Part) → IsStep p → crossed windows p ≡ p.text
step-crossed _ a_parent = refl
step-crossed _ (a_plain name plain) = refl

steps-crossed : (ps : List Part) → AllByRecursion IsStep ps → map (crossed windows) ps ≡ texts ps
steps-crossed [] steps = refl
steps-crossed (p ∷ ps) steps = ap₂ ◌∷◌ (step-crossed p steps.0) (steps-crossed ps steps.1)

-- a Unix list as it is read on Windows
abbrev pub on_windows : List Part → List Part
on_windows [] = []
on_windows (p ∷ ps) = written_windows p.text p.kind ∷ ps

-- a first component, and steps behind it
crossed-behind : (p : Part) (text : List ℕ) (ps : List Part) → IsBare text → crossed windows p ≡ text → AllByRecursion IsStep ps → parts_of windows (crossed_all windows (p ∷ ps)) ≡ body_parts Either text ++ ps
crossed-behind p text ps bare is steps =
    ap₂ (λ t us. parts_of windows (push_all windows t us)) (push-first (crossed windows p) ∙ is) (steps-crossed ps steps)
    ∙ push_all-steps text ps bare steps

crossed-first : (k : Kind) (text : List ℕ) (ps : List Part) → IsWritten Slash k text → lack_backslash (k ∷ []) ≡ true → have_allowed_bytes windows (k ∷ []) ≡ true → AllByRecursion IsStep ps
    → parts_of windows (crossed_all windows (record { kind = k; text = text } ∷ ps)) ≡ written_windows text k ∷ ps
crossed-first (prefix p) text ps written lacks allowed steps = absurd written
crossed-first root text ps written lacks allowed steps = crossed-behind (root_part text) (backslash ∷ []) ps bare-root refl steps
crossed-first current text ps written lacks allowed steps = crossed-behind (record { kind = current; text = text }) (dot ∷ []) ps bare-current written steps
crossed-first parent text ps written lacks allowed steps = crossed-behind (record { kind = parent; text = text }) (dot ∷ dot ∷ []) ps bare-parent written steps
crossed-first (normal name) text ps written lacks allowed steps =
    let plain = crossed-plain name written.1 lacks allowed in
    crossed-behind (record { kind = normal name; text = text }) name ps (bare-name name plain) written.0 steps
    ∙ ap (λ qs. qs ++ ps) (body_parts-name Either name plain.clean)

-- a list of Unix without `\` that has allowed bytes is read on Windows as it is, but for how its root is written
crossed-read : (ps : List Part) → AreRead Slash ps → lack_backslash (kinds ps) ≡ true → have_allowed_bytes windows (kinds ps) ≡ true → parts_of windows (crossed_all windows ps) ≡ on_windows ps
crossed-read ps read lacks allowed = grind (arith, crossed-first, later-steps)

-- so its kinds stay
on_windows-kinds : (ps : List Part) → kinds (on_windows ps) ≡ kinds ps
on_windows-kinds ps = grind arith

-- what Unix reads is a list as it is read
pub parts_of-read : (t : List ℕ) → AreRead Slash (parts_of unix t)
parts_of-read t = subst (AreRead Slash) (sym (parts_of-unix t)) (body_parts-read Slash t)

-- what is accepted is read as what the path is, but for how its root is written
pub accepted-read : (t u : List ℕ) → lack_backslash (kinds (parts_of unix t)) ≡ true → converted_checked unix windows t ≡ Ok u → parts_of windows u ≡ on_windows (parts_of unix t)
accepted-read t u lacks accepted =
    let ok = converted_checked-ok t u lacks accepted in
    ap (parts_of windows) (sym ok.1) ∙ crossed-read (parts_of unix t) (parts_of-read t) lacks (valid-allowed windows (kinds (parts_of unix t)) ok.0)

-- the components are kept
pub crosses_as_it_is : (t : List ℕ) → CrossesAsItIs t
crosses_as_it_is t lacks u accepted = ap kinds (accepted-read t u lacks accepted) ∙ on_windows-kinds (parts_of unix t)

-- What a path of Windows is read as once it is converted to Unix, and what a path of Unix is that comes back from there.

-- the root of Unix
abbrev slash_part : Part
slash_part = root_part (root_of unix)

-- a text that is not empty stays so
push_unix-filled : (base path : List ℕ) → (length base == 0) ≡ false → (length (push_unix base path) == 0) ≡ false
push_unix-filled base path filled = grind (arith, length-append)

-- later components are no roots
later-unrooted : (s : Separators) (k : Kind) (text : List ℕ) → IsLater s k text → is_root k ≡ false
later-unrooted s k text later = grind arith

all-unrooted : (s : Separators) (ps : List Part) → AllByRecursion (IsLaterPart s) ps → list_any is_root (kinds ps) ≡ false
all-unrooted s [] later = refl
all-unrooted s (p ∷ ps) later = ap (λ b. b || list_any is_root (kinds ps)) (later-unrooted s p.kind p.text later.0) ∙ all-unrooted s ps later.1

-- what stands before a component that is put behind other ones: these, unless it is a root
abbrev based : Bool → List Part → List Part
based rooted ps = if rooted then slash_part ∷ [] else ps

module _ (s : Separators) (w : OfWindows s) where
  -- a component of Windows, pushed onto a Unix text that is not empty
  push-written : (base : List ℕ) (k : Kind) (text : List ℕ) → (length base == 0) ≡ false → IsWritten s k text → have_allowed_bytes windows (k ∷ []) ≡ true
      → body_parts Slash (push_unix base (crossed unix (record { kind = k; text = text }))) ≡ based (is_root k) (body_parts Slash base) ++ parents_and_names (record { kind = k; text = text } ∷ [])
  push-written base (prefix p) text filled written allowed = absurd written
  push-written base root text filled written allowed = refl
  push-written base current text filled written allowed = rw written (push_unix-behind base (dot ∷ []) filled refl)
  push-written base parent text filled written allowed = rw written (push_unix-behind base (dot ∷ dot ∷ []) filled refl)
  push-written base (normal name) text filled written allowed =
      let clean = plain-clean Slash name (allowed-plain s name written.1 (not-true _ (and_parts _ true allowed).0)) in
      rw written.0
      (push_unix-behind base name filled (ap (λ ps. begins_with_root (kinds ps)) (body_parts-name Slash name clean))
      ∙ ap (λ ps. body_parts Slash base ++ ps) (later_parts-name Slash name clean))

  -- a component pushed onto a Unix text that is not empty, and then others
  push_all-next : (base : List ℕ) (p : Part) (ps : List Part) → (length base == 0) ≡ false → IsWritten s p.kind p.text → have_allowed_bytes windows (p.kind ∷ []) ≡ true
      → ((next : List ℕ) → (length next == 0) ≡ false → body_parts Slash (push_all unix next (map (crossed unix) ps)) ≡ body_parts Slash next ++ parents_and_names ps)
      → body_parts Slash (push_all unix base (map (crossed unix) (p ∷ ps))) ≡ based (is_root p.kind) (body_parts Slash base) ++ parents_and_names (p ∷ ps)
  push_all-next base p ps filled written allowed rest = grind (arith, body_parts, push_unix-filled, push-written, append_assoc, filter-append)

  -- later components, pushed one by one
  push_all-later : (ps : List Part) → AllByRecursion (IsLaterPart s) ps → have_allowed_bytes windows (kinds ps) ≡ true → (base : List ℕ) → (length base == 0) ≡ false
      → body_parts Slash (push_all unix base (map (crossed unix) ps)) ≡ body_parts Slash base ++ parents_and_names ps
  push_all-later [] later allowed base filled = sym (append-nil (body_parts Slash base))
  push_all-later (p ∷ ps) later allowed base filled =
      let own = and_parts _ (have_allowed_bytes windows (kinds ps)) allowed in
      push_all-next base p ps filled (IsWritten-later s p.kind p.text later.0) (rw own.0 refl) (push_all-later ps later.1 own.1)
      ∙ ap (λ b. based b (body_parts Slash base) ++ parents_and_names (p ∷ ps)) (later-unrooted s p.kind p.text later.0)

  -- a list behind a prefix, pushed onto a Unix text that is not empty
  push_all-body : (base : List ℕ) (ps : List Part) → (length base == 0) ≡ false → AreRead s ps → have_allowed_bytes windows (kinds ps) ≡ true
      → body_parts Slash (push_all unix base (map (crossed unix) ps)) ≡ based (list_any is_root (kinds ps)) (body_parts Slash base) ++ parents_and_names ps
  push_all-body base ps filled read allowed = grind (arith, push_all-next, push_all-later, all-unrooted, or-false)

  -- a list without a prefix, pushed onto the empty text
  push_all-first : (k : Kind) (text : List ℕ) (ps : List Part) → IsWritten s k text → AllByRecursion (IsLaterPart s) ps → have_allowed_bytes windows (k ∷ kinds ps) ≡ true
      → body_parts Slash (crossed_all unix (record { kind = k; text = text } ∷ ps)) ≡ on_unix (record { kind = k; text = text } ∷ ps)
  push_all-first (prefix p) text ps written later allowed = absurd written
  push_all-first root text ps written later allowed = push_all-later ps later allowed (slash ∷ []) refl
  push_all-first current text ps written later allowed = grind (arith, common_steps, all-unrooted, push_all-later)
  push_all-first parent text ps written later allowed = grind (arith, common_steps, all-unrooted, push_all-later)
  push_all-first (normal name) text ps written later allowed = grind (arith, common_steps, and_parts, plain-clean, allowed-plain, not-true, all-unrooted, body_parts, push_unix-name, push_all-later, body_parts-name)

  none-crossed : (ps : List Part) → AreRead s ps → have_allowed_bytes windows (kinds ps) ≡ true → body_parts Slash (crossed_all unix ps) ≡ on_unix ps
  none-crossed ps read allowed = grind (arith, push_all-first)

-- a drive is a name on Unix
drive-clean : (text : List ℕ) (letter : ℕ) → drive text ≡ Some letter → IsCleanName Slash (take 2 text)
drive-clean text letter is = grind (arith, both_ways, eqb-true, and_left)

-- a list behind a drive
disk-crossed : (s : Separators) → OfWindows s → (text : List ℕ) (letter : ℕ) (ps : List Part) → drive text ≡ Some letter → AreRead s ps → have_allowed_bytes windows (kinds ps) ≡ true
    → body_parts Slash (crossed_all unix (prefix_part (disk letter) (take 2 text) ∷ ps)) ≡ on_unix (prefix_part (disk letter) (take 2 text) ∷ ps)
disk-crossed s w text letter ps is read allowed =
    let clean = drive-clean text letter is in
    ap (λ base. body_parts Slash (push_all unix base (map (crossed unix) ps))) (push_unix-name [] (take 2 text) clean)
    ∙ push_all-body s w (take 2 text) ps clean.filled read allowed
    ∙ ap (λ qs. based (list_any is_root (kinds ps)) qs ++ parents_and_names ps) (body_parts-name Slash (take 2 text) clean)

-- a list behind another prefix
other-crossed : (s : Separators) → OfWindows s → (p : Prefix) (raw : List ℕ) (ps : List Part) → is_disk p ≡ false → AreRead s ps → have_allowed_bytes windows (kinds ps) ≡ true
    → body_parts Slash (crossed_all unix (prefix_part p raw ∷ ps)) ≡ on_unix (prefix_part p raw ∷ ps)
other-crossed s w p raw ps other read allowed = grind (arith, push_all-body)

-- a list behind a prefix
found-crossed : (text : List ℕ) (f : Found) (ps : List Part) → Read (separators windows text) text f → AreRead (separators windows text) ps → have_allowed_bytes windows (kinds ps) ≡ true
    → body_parts Slash (crossed_all unix (prefix_part f.prefix (take f.length text) ∷ ps)) ≡ on_unix (prefix_part f.prefix (take f.length text) ∷ ps)
found-crossed text f ps from read allowed = elim (cases_Bool (is_disk f.prefix)) [
  | inl drives ↦ by f from drives
  | inr other ↦ other-crossed (separators windows text) (separators-windows text) f.prefix (take f.length text) ps other read allowed
]
  where
    by : (f : Found) → Read (separators windows text) text f → is_disk f.prefix ≡ true
        → body_parts Slash (crossed_all unix (prefix_part f.prefix (take f.length text) ∷ ps)) ≡ on_unix (prefix_part f.prefix (take f.length text) ∷ ps)
    by _ (of_disk letter is) drives = disk-crossed (separators windows text) (separators-windows text) text letter ps is read allowed
    by f from drives = cc

-- each Windows path whose names have allowed bytes
pub crosses_to_unix : (t : List ℕ) → CrossesToUnix t
crosses_to_unix t allowed = parts_of-unix (crossed_all unix (parts_of windows t)) ∙ by (prefix_of windows t) refl
  where
    by : (o : Option Found) → prefix_of windows t ≡ o → body_parts Slash (crossed_all unix (parts_of windows t)) ≡ on_unix (parts_of windows t)
    by None is =
        let read = parts_of-none t is in
        subst (λ ps. body_parts Slash (crossed_all unix ps) ≡ on_unix ps) (sym read)
        (none-crossed Either refl (body_parts Either t) (body_parts-read Either t) (ap (λ ps. have_allowed_bytes windows (kinds ps)) (sym read) ∙ allowed))
    by (Some f) is =
        let read = parts_of-some t f is in
        let s = separators windows t in
        let rest = body_parts s (drop f.length t) in
        subst (λ ps. body_parts Slash (crossed_all unix ps) ≡ on_unix ps) (sym read)
        (found-crossed t f rest (prefix-read t f is) (body_parts-read s (drop f.length t)) (ap (λ ps. have_allowed_bytes windows (kinds ps)) (sym read) ∙ allowed))

-- converted back, a step stays, and is no root
steps-kept : (ps : List Part) → AllByRecursion IsStep ps → parents_and_names ps ≡ ps
steps-kept [] steps = refl
steps-kept (p ∷ ps) steps = by p steps.0 (steps-kept ps steps.1)
  where
    by : (q : Part) → IsStep q → parents_and_names ps ≡ ps → parents_and_names (q ∷ ps) ≡ q ∷ ps
    by _ a_parent e = ap (λ qs. parent_part ∷ qs) e
    by _ (a_plain name plain) e = ap (λ qs. name_part name ∷ qs) e

steps-unrooted : (ps : List Part) → AllByRecursion IsStep ps → list_any is_root (kinds ps) ≡ false
steps-unrooted [] steps = refl
steps-unrooted (p ∷ ps) steps = by p steps.0 (steps-unrooted ps steps.1)
  where
    by : (q : Part) → IsStep q → list_any is_root (kinds ps) ≡ false → list_any is_root (q.kind ∷ kinds ps) ≡ false
    by _ a_parent e = e
    by _ (a_plain name plain) e = e

-- a first component stays too, and steps behind it
back-first : (k : Kind) (text : List ℕ) (ps : List Part) → IsWritten Slash k text → AllByRecursion IsStep ps → kinds (on_unix (written_windows text k ∷ ps)) ≡ k ∷ kinds ps
back-first k text ps written steps = grind (arith, steps-kept, steps-unrooted)

-- and so does a list of Unix without `\` that has allowed bytes
back-read : (ps : List Part) → AreRead Slash ps → lack_backslash (kinds ps) ≡ true → have_allowed_bytes windows (kinds ps) ≡ true → kinds (on_unix (on_windows ps)) ≡ kinds ps
back-read ps read lacks allowed = grind (arith, back-first, later-steps)

-- the answer, converted to Unix, equals the path
pub crosses_back : (t : List ℕ) → CrossesBack t
crosses_back t lacks u accepted =
    let allowed = valid-allowed windows (kinds (parts_of unix t)) (converted_checked-ok t u lacks accepted).0 in
    ap kinds (crosses_to_unix u (ap (have_allowed_bytes windows) (crosses_as_it_is t lacks u accepted) ∙ allowed) ∙ ap on_unix (accepted-read t u lacks accepted))
    ∙ back-read (parts_of unix t) (parts_of-read t) lacks allowed
