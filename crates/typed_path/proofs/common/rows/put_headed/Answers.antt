use Rattle.std.proofs.Common.{◌≡◌, ◌∙◌, ℕ, List, ◌+◌, ◌-◌, ◌++◌, ◌∷◌, ◌||◌, [], if◌then◌else◌, true, false, Bool, length, take, drop, refl, sym, ap, ap₂, append-nil, append_assoc, arith}
use Rattle.std.proofs.lemmas.List.{length-drop, take-append-drop, take_all, take_at}
use mir.Val.{bool_byte}
use Rattle.typed_path.specs.declared.scan.separators.Separators.{Separators}
use Rattle.typed_path.specs.components.{body, parts, kinds}
use Rattle.typed_path.specs.queries.{begins_with_root}
use Rattle.typed_path.specs.places.{row_end, rows_of, behind_head, kept_segments, segment_kinds}
use Rattle.typed_path.proofs.lemmas.places.CleanTexts.{closed-text, kept-body}
use Rattle.typed_path.proofs.common.rows.put_headed.Goals as goal
use Rattle.typed_path.proofs.common.rows.put_headed.Goals.{then-anchored+in_ok-push, else-anchored}

-- the rest of a text, as a range that ends with it
rest-range : (text : List ℕ) (end : ℕ) → take (length text - end) (drop end text) ≡ drop end text
rest-range text end = take_all (length text - end) (drop end text) (omega (arith, length-drop end text))

-- the length of a root, where there is one
root-length : (there : Bool) (n byte : ℕ) → n ≡ bool_byte there → n ≡ length (if there then byte ∷ [] else [])
root-length true n byte e = e
root-length false n byte e = e

-- a root behind a text, or none
abbrev front : Separators → List ℕ → Bool → List ℕ
front s text there = text ++ (if there then row_end s ∷ [] else [])

rooted-front : (s : Separators) (there : Bool) (text begun new : List ℕ) (byte : ℕ) → begun ≡ text → new ≡ begun ++ byte ∷ [] → byte ≡ row_end s → there ≡ true → new ≡ front s text there
rooted-front s there text begun new byte same put is e = put ∙ ap₂ (λ t b. t ++ b ∷ []) same is ∙ ap (front s text) (sym e)

bare-front : (s : Separators) (there : Bool) (text begun new : List ℕ) → begun ≡ text → new ≡ begun → there ≡ false → new ≡ front s text there
bare-front s there text begun new same stays e = stays ∙ same ∙ sym (append-nil text) ∙ ap (front s text) (sym e)

-- what is kept of a text behind another is kept of that one
kept-through : (old raw more mid new : List ℕ) → mid ≡ (old ++ raw) ++ more → take (length mid) new ≡ mid → take (length old) new ≡ old
kept-through old raw more mid new e kept =
    ap (take (length old))
    (sym (take-append-drop (length mid) new)
    ∙ ap (λ t. t ++ drop (length mid) new) (kept ∙ e ∙ append_assoc old raw more)
    ∙ append_assoc old (raw ++ more) (drop (length mid) new))
    ∙ take_at old _ (length old) refl

pub returns-in_err-put_kept-clause-kept : goal.returns-in_err-put_kept-clause-kept
returns-in_err-put_kept-clause-kept c =
    let s = c.args.separators in
    let old = c.args.text.now.items in
    let raw = take c.args.end c.args.path.now in
    let anchored = c.args.implied || c.has_physical_root-rooted.result in
    let begun = c.in_ok-append_first.ensures.ok in
    let headed : c.if-anchored.text.items ≡ front s (old ++ raw) anchored = elim c.if-anchored.branch [
      | then-anchored+in_ok-push w ↦ ap (λ v. v.items) w.text-is ∙ rooted-front s anchored (old ++ raw) _ _ w.row_end.result begun w.in_ok-push.ensures.items w.row_end.ensures w.if-anchored.true
      | else-anchored w ↦ ap (λ v. v.items) w.text-is ∙ bare-front s anchored (old ++ raw) _ _ begun refl w.if-anchored.false
    ] in
    kept-through old raw _ _ _ headed c.in_err-put_kept.ensures.puts.kept

pub returns-clause-ok : goal.returns-clause-ok
returns-clause-ok c =
    let s = c.args.separators in
    let old = c.args.text.now.items in
    let raw = take c.args.end c.args.path.now in
    let rest = drop c.args.end c.args.path.now in
    let rooted = c.has_physical_root-rooted.result in
    let anchored = c.args.implied || rooted in
    let segments = kept_segments anchored (segment_kinds s rest) in
    let begun = c.in_ok-append_first.ensures.ok in
    let headed : c.if-anchored.text.items ≡ front s (old ++ raw) anchored = elim c.if-anchored.branch [
      | then-anchored+in_ok-push w ↦ ap (λ v. v.items) w.text-is ∙ rooted-front s anchored (old ++ raw) _ _ w.row_end.result begun w.in_ok-push.ensures.items w.row_end.ensures w.if-anchored.true
      | else-anchored w ↦ ap (λ v. v.items) w.text-is ∙ bare-front s anchored (old ++ raw) _ _ begun refl w.if-anchored.false
    ] in
    closed-text s old raw _ _ rooted c.args.implied (c.len.result + c.from.result) segments
    (c.in_ok-put_kept.ensures.puts.ok ∙ ap₂ (λ t r. t ++ rows_of s (kept_segments anchored (segment_kinds s r))) headed (rest-range c.args.path.now c.args.end))
    (omega (arith, c.len.ensures, ap length begun, root-length rooted c.from.result (row_end s) c.from.ensures))
    c.drop_separator.ensures.named c.drop_separator.ensures.alone
    ∙ ap (λ ss. old ++ behind_head (row_end s) raw rooted c.args.implied ss) (kept-body s anchored rest)

pub returns-clause-rooted : goal.returns-clause-rooted
returns-clause-rooted c =
    c.has_physical_root-rooted.ensures
    ∙ ap (λ items. begins_with_root (kinds (parts items))) (c.new.ensures.items ∙ ap (body c.args.separators 0) (rest-range c.args.path.now c.args.end))

pub returns-clause-kept : goal.returns-clause-kept
returns-clause-kept c = ap (take (length c.args.text.now.items)) (returns-clause-ok c) ∙ take_at c.args.text.now.items _ (length c.args.text.now.items) refl
