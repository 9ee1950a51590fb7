use Rattle.std.proofs.Common.{rules, ◌≡◌, ◌<◌, ◌≤◌, ◌+◌, ◌++◌, ℕ, Some, true, length, take, drop, refl, ap, sym, subst, ◌∙◌}
use Rattle.std.proofs.lemmas.Bool.Decides.{Decides-eqb}
use Rattle.std.proofs.lemmas.List.{take_rest}
use Rattle.std.proofs.lemmas.Slice.Eq.{starts_is}
use Rattle.typed_path.specs.declared.scan.cursor.Begin.TheVariants.{Inside}
use Rattle.typed_path.specs.changes.{raw_length}
use Rattle.typed_path.specs.components.{body, later_body, windows, separators, is_verbatim, prefix_of}
use Rattle.typed_path.specs.scan.{is_clean}
use Rattle.typed_path.proofs.lemmas.components.Prefixes.{same_separators}
use Rattle.typed_path.proofs.lemmas.queries.Bases.{stripped-behind_prefix, front-begun, behind-begun}
use Rattle.typed_path.proofs.windows.encoding.behind.Goals as goal

pub end_behind-requires-clause-begins : goal.end_behind-requires-clause-begins
end_behind-requires-clause-begins c =
    let t = c.args.path.now in
    let b = c.args.base.now in
    let n = raw_length (prefix_of windows t) in
    let m = raw_length (prefix_of windows b) in
    let begun : t ≡ b ++ drop (length b) t = (starts_is Decides-eqb t b true (sym c.if-not-starts_with.false ∙ c.starts_with.ensures.value)).0 refl in
    let same : n ≡ m = search rules in
    let low : n ≤ length b = search rules in
    let behind : c.split_at.result.1.now ≡ drop n t = search rules in
    let wanted : c.split_at-2.result.1.now ≡ drop n b = search rules in
    ap (take (length c.split_at-2.result.1.now)) behind ∙ ap (λ w. take (length w) (drop n t)) wanted ∙ behind-begun n t b begun low ∙ sym wanted

pub returns : goal.returns
returns c =
    let t = c.args.path.now in
    let b = c.args.base.now in
    let s = separators windows t in
    let end = c.in_ok-end.end in
    let told = c.in_ok-end.ensures in
    let o = prefix_of windows t in
    let p = prefix_of windows b in
    let begun : t ≡ b ++ drop (length b) t = (starts_is Decides-eqb t b true (sym c.if-not-starts_with.false ∙ c.starts_with.ensures.value)).0 refl in
    let same : raw_length o ≡ raw_length p = search rules in
    let low : raw_length o ≤ length b = search rules in
    let behind : c.split_at.result.1.now ≡ drop (raw_length o) t = search rules in
    let wanted : c.split_at-2.result.1.now ≡ drop (raw_length p) b = search rules in
    let raw : take (raw_length o) t ≡ take (raw_length p) b = front-begun (raw_length o) t b begun low ∙ ap (λ k. take k b) same in
    let verbatim : is_verbatim s ≡ is_verbatim (separators windows b) = search rules in
    let read : c.of_windows-separators.result ≡ s = c.of_windows-separators.ensures in
    let some : 0 < length (drop (raw_length p) b) = subst (λ w. 0 < length w) wanted told.some in
    let items : (at : ℕ) → body s at (drop (raw_length o) t) ≡ body s at (drop (raw_length p) b) ++ later_body s (at + end) (drop end (drop (raw_length o) t)) = λ at. sym (λ i. body (read i) at (behind i)) ∙ told.items at ∙ (λ i. body (read i) at (wanted i) ++ later_body (read i) (at + end) (drop end (behind i))) in
    let clean : is_clean Inside s (drop end (drop (raw_length o) t)) ≡ true = sym (λ i. is_clean Inside (read i) (drop end (behind i))) ∙ told.clean in
    stripped-behind_prefix t b end o p refl refl (same_separators t b verbatim) raw some items clean
    ∙ ap (λ rest. Some (drop end rest)) (sym behind) ∙ ap Some (sym (take_rest c.split_at.result.1.now end))
