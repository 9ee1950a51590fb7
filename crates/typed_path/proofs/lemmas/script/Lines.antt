-- Lines of an input that comes in pieces: their ends, their commands, their fields.
use Rattle.std.proofs.Common.{◌≡◌, ℕ, List, [], ◌∷◌, ◌++◌, Bool, true, false, cond, append_assoc, eqb, refl, sym, ap, ◌∙◌, ◌≢◌, ◌==◌, subst, All, length, take, append-nil, arith, drop, take_all, codes, bytes_eq, Result, OnOk, Option, Some, IfOk, is_ok, take-append-drop}
use Rattle.std.proofs.lemmas.Grind.{common_steps}
use Rattle.std.specs.List.{slice_split, onto_first, join_with_byte}
use Rattle.std.proofs.lemmas.List.Splits.{slice_split-cons_no, join_with_byte-slice_split, slice_split_none}
use Rattle.std.proofs.lemmas.Slice.Eq.{bytes_eq-Decides}
use Rattle.std.proofs.lemmas.Bool.{false_from_ne_true, or_parts}
use Rattle.std.proofs.lemmas.Result.{IfOk-weaker}
use Rattle.std.proofs.lemmas.List.Elements.{All-weaker}
use Rattle.std.proofs.Math.Seq.{take-append_seam}
use Rattle.typed_path.specs.declared.script.lines.Command.{Command}
use Rattle.typed_path.specs.declared.script.lines.Command.TheVariants.{Normalize, Components, Join, JoinChecked, Convert, ConvertChecked}
use Rattle.typed_path.specs.declared.script.lines.FieldEnd.{FieldEnd}
use Rattle.typed_path.specs.script.{line_feed, split_lines, ended, last_line, all_lines, complete_lines, open_line, lines_of, replies_to, tab, fields_of, reply_in, convert_reply_in, pair_reply_in, reply_fields, reply_line, derived_reply, bare_reply, bad_line, dialect_named, dialect_name, in_named, AnswersFirst, text_reply, command_name, texts_reply, end_byte}
use Rattle.typed_path.specs.components.{Dialect, unix, windows}
use Rattle.typed_path.specs.scan.{is_one_of, IsFirstOf}
use Rattle.typed_path.proofs.lemmas.lists.Lists.{slice_split-some, fails_before, slice_split-append}
use Rattle.typed_path.proofs.lemmas.scan.Searches.{first-of}

-- Lines of an input that comes in pieces.

ended-cons : (p : List ℕ) (q : List ℕ) (ps qs : List (List ℕ)) → qs ≡ q ∷ ps → ended (p ∷ qs) ≡ p ∷ ended qs
ended-cons p q ps qs e = ap (λ rs. ended (p ∷ rs)) e ∙ ap (λ rs. p ∷ ended rs) (sym e)

last_line-cons : (p : List ℕ) (q : List ℕ) (ps qs : List (List ℕ)) → qs ≡ q ∷ ps → last_line (p ∷ qs) ≡ last_line qs
last_line-cons p q ps qs e = ap (λ rs. last_line (p ∷ rs)) e ∙ ap last_line (sym e)

ended-append : (ps : List (List ℕ)) (q : List ℕ) (qs : List (List ℕ)) → ended (ps ++ q ∷ qs) ≡ ps ++ ended (q ∷ qs)
ended-append [] q qs = refl
ended-append (p ∷ []) q qs = refl
ended-append (p ∷ r ∷ ps) q qs = ap (λ rs. p ∷ rs) (ended-append (r ∷ ps) q qs)

last_line-append : (ps : List (List ℕ)) (q : List ℕ) (qs : List (List ℕ)) → last_line (ps ++ q ∷ qs) ≡ last_line (q ∷ qs)
last_line-append [] q qs = refl
last_line-append (p ∷ []) q qs = refl
last_line-append (p ∷ r ∷ ps) q qs = last_line-append (r ∷ ps) q qs

module _ (p : ℕ → Bool) where
  pieces_behind : (x : ℕ) (u v : List ℕ) (b : Bool) → p x ≡ b → (piece : List ℕ) (pieces : List (List ℕ)) → slice_split p u ≡ piece ∷ pieces
      → slice_split p (u ++ v) ≡ ended (slice_split p u) ++ slice_split p (last_line (slice_split p u) ++ v)
      → cond b ([] ∷ slice_split p (u ++ v)) (onto_first x (slice_split p (u ++ v)))
      ≡ ended (cond b ([] ∷ slice_split p u) (onto_first x (slice_split p u))) ++ slice_split p (last_line (cond b ([] ∷ slice_split p u) (onto_first x (slice_split p u))) ++ v)
  pieces_behind x u v b passes piece pieces h rest = grind arith

  -- the pieces of two texts put together: those of the first but the last, which goes on in the second
  pub slice_split-joined : (u v : List ℕ) → slice_split p (u ++ v) ≡ ended (slice_split p u) ++ slice_split p (last_line (slice_split p u) ++ v)
  slice_split-joined [] v = refl
  slice_split-joined (x ∷ u) v =
      let first = slice_split-some p u in
      pieces_behind x u v (p x) refl first.0 first.1 first.2 (slice_split-joined u v)

-- the complete lines of an input to which more comes
pub complete_lines-append : (input more : List ℕ) → complete_lines (input ++ more) ≡ complete_lines input ++ complete_lines (open_line input ++ more)
complete_lines-append input more =
    let rest = slice_split-some (λ b. eqb b line_feed) (open_line input ++ more) in
    ap ended (slice_split-joined (λ b. eqb b line_feed) input more)
    ∙ ap (λ ps. ended (complete_lines input ++ ps)) rest.2
    ∙ ended-append (complete_lines input) rest.0 rest.1
    ∙ ap (λ ps. complete_lines input ++ ended ps) (sym rest.2)

pub open_line-append : (input more : List ℕ) → open_line (input ++ more) ≡ open_line (open_line input ++ more)
open_line-append input more =
    let rest = slice_split-some (λ b. eqb b line_feed) (open_line input ++ more) in
    ap last_line (slice_split-joined (λ b. eqb b line_feed) input more)
    ∙ ap (λ ps. last_line (complete_lines input ++ ps)) rest.2
    ∙ last_line-append (complete_lines input) rest.0 rest.1
    ∙ ap last_line (sym rest.2)

all_lines-ended : (p : List ℕ) (ps : List (List ℕ)) → all_lines (p ∷ ps) ≡ ended (p ∷ ps) ++ all_lines (last_line (p ∷ ps) ∷ [])
all_lines-ended p [] = refl
all_lines-ended p (q ∷ ps) = ap (λ rs. p ∷ rs) (all_lines-ended q ps)

-- at the end of the input the open line is complete, unless it is empty
pub lines_of-open : (input : List ℕ) → lines_of input ≡ complete_lines input ++ all_lines (open_line input ∷ [])
lines_of-open input =
    let some = slice_split-some (λ b. eqb b line_feed) input in
    ap all_lines some.2 ∙ all_lines-ended some.0 some.1 ∙ ap (λ ps. ended ps ++ all_lines (last_line ps ∷ [])) (sym some.2)

pub replies_to-append : (ls ms : List (List ℕ)) → replies_to (ls ++ ms) ≡ replies_to ls ++ replies_to ms
replies_to-append ls ms = grind (arith, common_steps)

module _ (p : ℕ → Bool) where
  -- a text with no separator in front of others goes on in their first piece
  whole_behind : (x : ℕ) (u : List ℕ) (b : Bool) → p x ≡ b → (a : List ℕ) (as' : List (List ℕ)) → slice_split p u ≡ a ∷ as'
      → cond b ([] ∷ slice_split p u) (onto_first x (slice_split p u)) ≡ (x ∷ u) ∷ [] → (b ≡ false) × (slice_split p u ≡ u ∷ [])
  whole_behind x u b e a as' h whole = grind arith

  pub slice_split-onto : (u v h : List ℕ) (t : List (List ℕ)) → slice_split p u ≡ u ∷ [] → slice_split p v ≡ h ∷ t → slice_split p (u ++ v) ≡ (u ++ h) ∷ t
  slice_split-onto [] v h t whole e = e
  slice_split-onto (x ∷ u) v h t whole e =
      let some = slice_split-some p u in
      let behind = whole_behind x u (p x) refl some.0 some.1 some.2 whole in
      slice_split-cons_no p x (u ++ v) behind.0 ∙ ap (onto_first x) (slice_split-onto u v h t behind.1 e)

-- an open line and a text behind it: nothing is complete where the text has no line feed
module _ (line : List ℕ) (is_open : split_lines line ≡ line ∷ []) (text : List ℕ) where
  pub joined-open : split_lines text ≡ text ∷ [] → split_lines (line ++ text) ≡ (line ++ text) ∷ []
  joined-open h = slice_split-onto (λ b. eqb b line_feed) line text text [] is_open h

  -- and else the text's first piece completes the line
  module _ (piece behind : List ℕ) (cut : split_lines text ≡ piece ∷ split_lines behind) where
    joined : split_lines (line ++ text) ≡ (line ++ piece) ∷ split_lines behind
    joined = slice_split-onto (λ b. eqb b line_feed) line text piece (split_lines behind) is_open cut

    pub complete_lines-joined : complete_lines (line ++ text) ≡ (line ++ piece) ∷ complete_lines behind
    complete_lines-joined =
        let rest = slice_split-some (λ b. eqb b line_feed) behind in ap ended joined ∙ ended-cons (line ++ piece) rest.0 rest.1 (split_lines behind) rest.2

    pub open_line-joined : open_line (line ++ text) ≡ open_line behind
    open_line-joined =
        let rest = slice_split-some (λ b. eqb b line_feed) behind in ap last_line joined ∙ last_line-cons (line ++ piece) rest.0 rest.1 (split_lines behind) rest.2

-- Lines that begin with a command and its tab, and those that do not.

-- a reply is the same where its fields are
pub put_same : {A E : Type 0} (r : Result A E) (new old : List ℕ) (us vs : List (List ℕ)) → us ≡ vs → OnOk r (new ≡ old ++ reply_line us) → OnOk r (new ≡ old ++ reply_line vs)
put_same r new old us vs e h = subst (λ fields. OnOk r (new ≡ old ++ reply_line fields)) e h

-- a text does not begin with a name and a tab
abbrev pub LacksField : List ℕ → List ℕ → Type 0
LacksField name text = (rest : List ℕ) → text ≢ name ++ tab ∷ rest

-- so its first field is not that name, where it has more than one
first_is_other : (text name first second : List ℕ) (fields : List (List ℕ)) → LacksField name text → fields_of text ≡ first ∷ second ∷ fields → bytes_eq first name ≡ false
first_is_other text name first second fields lacks split =
    false_from_ne_true (bytes_eq first name) (λ e.
    let is : first ≡ name = (bytes_eq-Decides first name).0 e in
    lacks (join_with_byte tab (second ∷ fields))
    (sym (join_with_byte-slice_split tab text) ∙ ap (join_with_byte tab) split ∙ ap (λ f. f ++ tab ∷ join_with_byte tab (second ∷ fields)) is))

-- a test that fails on two names takes neither of what they give
neither : (first second : Bool) (a b c : List (List ℕ)) → first ≡ false → second ≡ false → cond first a (cond second b c) ≡ c
neither first second a b c e f = cc

-- what is a bad line in each dialect is one whatever dialect is named
bad_in_named : (fields : Dialect → List (List ℕ)) (d : Option Dialect) → ((e : Dialect) → fields e ≡ bad_line) → in_named fields d ≡ bad_line
bad_in_named fields d bad = grind arith

-- a text that begins with none of the commands begins with no command
pub no_command_begins : (text : List ℕ) → LacksField (codes "normalize") text → LacksField (codes "components") text → LacksField (codes "join") text → LacksField (codes "join_checked") text
    → LacksField (codes "convert") text → LacksField (codes "convert_checked") text
    → (c : Command) → LacksField (command_name c) text
no_command_begins text normalize components join checked convert converts_checked Normalize = normalize
no_command_begins text normalize components join checked convert converts_checked Components = components
no_command_begins text normalize components join checked convert converts_checked Join = join
no_command_begins text normalize components join checked convert converts_checked JoinChecked = checked
no_command_begins text normalize components join checked convert converts_checked Convert = convert
no_command_begins text normalize components join checked convert converts_checked ConvertChecked = converts_checked

-- a line that begins with no command on a dialect and its tab is answered as one that names none
pub no_command : (line : List ℕ) → ((c : Command) → LacksField (command_name c) line) → reply_fields (fields_of line) ≡ bare_reply (fields_of line)
no_command line lacks = by (fields_of line) refl
  where
    by : (fields : List (List ℕ)) → fields_of line ≡ fields → reply_fields fields ≡ bare_reply fields
    by [] e = refl
    by (f ∷ []) e = refl
    by (f ∷ d ∷ []) e = refl
    by (f ∷ d ∷ p ∷ []) e =
        bad_in_named (λ dialect. reply_in dialect f p) (dialect_named d)
        (λ dialect. neither _ _ _ _ bad_line (first_is_other line (codes "normalize") f d (p ∷ []) (lacks Normalize) e) (first_is_other line (codes "components") f d (p ∷ []) (lacks Components) e))
    by (f ∷ d ∷ b ∷ p ∷ []) e =
        bad_in_named (λ dialect. pair_reply_in dialect f b p) (dialect_named d) (λ dialect.
        neither _ _ _ _ _ (first_is_other line (codes "join") f d (b ∷ p ∷ []) (lacks Join) e) (first_is_other line (codes "join_checked") f d (b ∷ p ∷ []) (lacks JoinChecked) e)
        ∙ bad_in_named (convert_reply_in dialect f p) (dialect_named b) (λ target.
        neither _ _ _ _ bad_line (first_is_other line (codes "convert") f d (b ∷ p ∷ []) (lacks Convert) e) (first_is_other line (codes "convert_checked") f d (b ∷ p ∷ []) (lacks ConvertChecked) e)))
    by (f ∷ d ∷ b ∷ p ∷ q ∷ fields) e = refl

-- a command on a dialect is none that names no dialect
names_a_dialect : (c : Command) → bytes_eq (command_name c) (codes "derive") ≡ false
names_a_dialect c = grind arith

-- so it is no command where one text alone stands behind it
pub one_text : (c : Command) (text : List ℕ) → reply_fields (command_name c ∷ text ∷ []) ≡ bad_line
one_text c text = ap (λ is. cond is (derived_reply text) bad_line) (names_a_dialect c)

-- the fields behind a command, where they begin with no known encoding and its tab
pub no_encoding : (c : Command) (rest : List ℕ) → LacksField (codes "unix") rest → LacksField (codes "windows") rest → reply_fields (command_name c ∷ fields_of rest) ≡ bad_line
no_encoding c rest no_unix no_windows = grind (arith, first_is_other, one_text)

-- more than two texts are too many for every command
pub too_many : (d : Dialect) (command base first : List ℕ) (behind : List ℕ) → texts_reply d command (base ∷ first ∷ fields_of behind) ≡ bad_line
too_many d command base first behind =
    let some = slice_split-some (λ b. b == tab) behind in
    ap (λ fields. texts_reply d command (base ∷ first ∷ fields)) some.2

-- a line that does not begin with the one command that names no dialect, and its tab
pub no_bare_command : (line : List ℕ) → LacksField (codes "derive") line → bare_reply (fields_of line) ≡ bad_line
no_bare_command line lacks = grind (arith, first_is_other)

-- more than one text is too many for it
pub bare_too_many : (first behind : List ℕ) → bare_reply (codes "derive" ∷ first ∷ fields_of behind) ≡ bad_line
bare_too_many first behind =
    let some = slice_split-some (λ b. b == tab) behind in
    ap (λ fields. bare_reply (codes "derive" ∷ first ∷ fields)) some.2

-- a command and a dialect in front of texts
pub named_reply : (c : Command) (d : Dialect) (texts : List (List ℕ)) → reply_fields (command_name c ∷ dialect_name d ∷ texts) ≡ texts_reply d (command_name c) texts
named_reply c unix [] = one_text c (codes "unix")
named_reply c windows [] = one_text c (codes "windows")
named_reply c unix (path ∷ []) = refl
named_reply c windows (path ∷ []) = refl
named_reply c unix (first ∷ path ∷ []) = refl
named_reply c windows (first ∷ path ∷ []) = refl
named_reply c d (first ∷ second ∷ third ∷ texts) = refl

-- The first line of an input, read from its front.

-- ---- the first tab or line feed of an input
module _ (input : List ℕ) (at : ℕ) (found : IsFirstOf (tab, line_feed) input 0 (length input) at) where
  neither_before : All (λ b. is_one_of (tab, line_feed) b ≡ false) (take at input)
  neither_before = fails_before (is_one_of (tab, line_feed)) input at (first-of (tab, line_feed) (is_one_of (tab, line_feed)) (λ b. refl) input at found) found.high

  -- what stands before it is one field
  pub field-before : fields_of (take at input) ≡ take at input ∷ []
  field-before = slice_split_none (λ b. b == tab) (take at input) (All-weaker (λ b. is_one_of (tab, line_feed) b ≡ false) (λ b. (b == tab) ≡ false) (λ b e. (or_parts (b == tab) (b == line_feed) e).0) (take at input) neither_before)

  -- and stands in one line
  pub line-before : split_lines (take at input) ≡ take at input ∷ []
  line-before = slice_split_none (λ b. b == line_feed) (take at input) (All-weaker (λ b. is_one_of (tab, line_feed) b ≡ false) (λ b. (b == line_feed) ≡ false) (λ b e. (or_parts (b == tab) (b == line_feed) e).1) (take at input) neither_before)

  -- as does the whole input, where there is none
  pub line-whole : at ≡ length input → split_lines input ≡ input ∷ []
  line-whole e = subst (λ t. split_lines t ≡ t ∷ []) (ap (λ n. take n input) e ∙ take_all (length input) input (omega arith)) line-before

-- ---- lines and their fields

-- the name of a command is one field, and stands in one line
pub command_is_field : (c : Command) → (split_lines (command_name c) ≡ command_name c ∷ []) × (fields_of (command_name c) ≡ command_name c ∷ [])
command_is_field c = grind arith

-- so is that of a dialect
pub dialect_is_field : (d : Dialect) → (split_lines (dialect_name d) ≡ dialect_name d ∷ []) × (fields_of (dialect_name d) ≡ dialect_name d ∷ [])
dialect_is_field unix = (refl, refl)
dialect_is_field windows = (refl, refl)

-- the fields of a line, its first field cut off
pub fields-behind : (field rest : List ℕ) → fields_of field ≡ field ∷ [] → fields_of (field ++ tab ∷ rest) ≡ field ∷ fields_of rest
fields-behind field rest whole = slice_split-append (λ b. eqb b tab) field tab rest refl ∙ ap (λ fields. fields ++ fields_of rest) whole

-- the lines of an input, the first field of its first line cut off
lines-behind : (field rest line : List ℕ) (lines : List (List ℕ)) → split_lines field ≡ field ∷ [] → split_lines rest ≡ line ∷ lines → split_lines (field ++ tab ∷ rest) ≡ (field ++ tab ∷ line) ∷ lines
lines-behind field rest line lines whole e = slice_split-onto (λ b. eqb b line_feed) field (tab ∷ rest) (tab ∷ line) lines whole (ap (onto_first tab) e)

-- what is given for what stands behind the first field is given for the whole line
answers-behind : (given : List ℕ → List ℕ) (field rest : List ℕ) (left : Option (List ℕ)) (old new : List ℕ) → split_lines field ≡ field ∷ []
    → AnswersFirst (λ line. given (field ++ tab ∷ line)) rest left old new → AnswersFirst given (field ++ tab ∷ rest) left old new
answers-behind given field rest left old new whole h = grind (arith, lines-behind)

-- what is given may be told in other words, where they are the same for the first line
answers-alike : (given other : List ℕ → List ℕ) (input : List ℕ) (left : Option (List ℕ)) (old new : List ℕ)
    → ((line : List ℕ) (lines : List (List ℕ)) → split_lines input ≡ line ∷ lines → other line ≡ given line)
    → AnswersFirst other input left old new → AnswersFirst given input left old new
answers-alike given other input left old new same h = grind arith

module _ {A E : Type 0} (r : Result A E) (left : A → Option (List ℕ)) (given other : List ℕ → List ℕ) (old new : List ℕ) where
  pub put_alike : (input : List ℕ) → ((line : List ℕ) (lines : List (List ℕ)) → split_lines input ≡ line ∷ lines → other line ≡ given line)
      → IfOk r (λ a. AnswersFirst other input (left a) old new) → IfOk r (λ a. AnswersFirst given input (left a) old new)
  put_alike input same h = IfOk-weaker r _ _ (λ a g. answers-alike given other input (left a) old new same g) h

  pub put_behind : (input field rest : List ℕ) → input ≡ field ++ tab ∷ rest → split_lines field ≡ field ∷ []
      → ((line : List ℕ) (lines : List (List ℕ)) → split_lines rest ≡ line ∷ lines → other line ≡ given (field ++ tab ∷ line))
      → IfOk r (λ a. AnswersFirst other rest (left a) old new) → IfOk r (λ a. AnswersFirst given input (left a) old new)
  put_behind input field rest e whole same h = grind (arith, answers-behind, answers-alike)

-- an input whose first field is known to end so
pub ended_so : (input field left : List ℕ) (end other : FieldEnd) → end ≡ other → input ≡ field ++ end_byte end ∷ left → input ≡ field ++ end_byte other ∷ left
ended_so input field left end other e h = h ∙ ap (λ x. field ++ end_byte x ∷ left) e

-- a line that is one field alone
pub ends_line : (given : List ℕ → List ℕ) (input field left answer old new : List ℕ) → input ≡ field ++ line_feed ∷ left → split_lines field ≡ field ∷ []
    → new ≡ old ++ answer → answer ≡ given field → AnswersFirst given input (Some left) old new
ends_line given input field left answer old new e whole put same = grind (arith, slice_split-append)

-- an input begins with its first line
begins : (line : List ℕ) (lines : List (List ℕ)) → (more : List ℕ) × (join_with_byte line_feed (line ∷ lines) ≡ line ++ more)
begins line [] = ([], sym (append-nil line))
begins line (next ∷ lines) = (line_feed ∷ join_with_byte line_feed (next ∷ lines), refl)

-- so that line begins with nothing with which the input does not
pub lacks-first : (name input line : List ℕ) (lines : List (List ℕ)) → split_lines input ≡ line ∷ lines → LacksField name input → LacksField name line
lacks-first name input line lines cut lacks rest e =
    let some = begins line lines in
    lacks (rest ++ some.0)
    (sym (join_with_byte-slice_split line_feed input) ∙ ap (join_with_byte line_feed) cut ∙ some.1 ∙ ap (λ t. t ++ some.0) e ∙ append_assoc name (tab ∷ rest) some.0)

-- ---- lines that come in pieces
same_first : (a b : List ℕ) (as' bs : List (List ℕ)) → a ∷ as' ≡ b ∷ bs → a ≡ b
same_first a b as' bs e = cc

-- a line to which its line feed was put is answered whole
pub completes : {A E : Type 0} (r : Result A E) (left : A → Option (List ℕ)) (given : List ℕ → List ℕ) (input line old new : List ℕ) → input ≡ line ++ line_feed ∷ [] → split_lines line ≡ line ∷ []
    → is_ok r ≡ true → IfOk r (λ a. AnswersFirst given input (left a) old new) → new ≡ old ++ given line
completes r left given input line old new e whole answered h = grind (arith, slice_split-append, same_first)

-- Fields in a row, and the fields that show components.

-- Replies whose text is put together at their end.

-- what an answer that has a text begins with
abbrev pub ok_field : List ℕ
ok_field = codes "ok" ++ tab ∷ []

module _ (old begun made : List ℕ) (start : ℕ) (ok : begun ≡ old ++ ok_field) (at : start ≡ length begun) (kept : take start made ≡ take start begun) where
  -- what stood before is there still
  parted : made ≡ (old ++ ok_field) ++ drop start made
  parted = sym (take-append-drop start made) ∙ ap (λ bs. bs ++ drop start made) (kept ∙ take_all start begun (omega (arith, at)) ∙ ok)

  -- the reply is complete once the line feed stands
  pub text_answered : (new : List ℕ) → new ≡ made ++ line_feed ∷ [] → new ≡ old ++ text_reply (drop start made)
  text_answered new ended = grind (arith, parted, append_assoc)

  -- and what it had of it is cut off again
  pub text_cut_off : (len : ℕ) → len ≡ length old → take len made ≡ old
  text_cut_off len size = grind (arith, parted, append_assoc, take-append_seam)
