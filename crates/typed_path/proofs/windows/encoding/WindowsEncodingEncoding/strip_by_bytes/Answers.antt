use Rattle.std.proofs.Common.{◌≡◌, ◌<◌, ◌+◌, ◌++◌, ◌-◌, ℕ, Some, true, length, take, drop, refl, ap, sym, subst, ◌∙◌}
use Rattle.std.proofs.lemmas.List.{take_rest}
use Rattle.typed_path.specs.declared.scan.cursor.Begin.TheVariants.{Inside}
use Rattle.typed_path.specs.changes.{raw_length}
use Rattle.typed_path.specs.components.{body, parts, texts, later_body, windows, separators, prefix_of}
use Rattle.typed_path.specs.scan.{is_clean}
use Rattle.std.specs.List.{starts_with}
use Rattle.std.specs.Str.{bytes_eq}
use Rattle.typed_path.proofs.lemmas.order.SharedNames.{alike-before, one-apart, parted-rest}
use Rattle.typed_path.proofs.lemmas.queries.Bases.{stripped-behind_prefix, stripped-not}
use Rattle.typed_path.proofs.windows.encoding.WindowsEncodingEncoding.strip_by_bytes.Goals as goal

pub base_end-requires : goal.base_end-requires
base_end-requires c = parted-rest c.args.path.now c.args.base.now c.first_difference-shared.result c.in-Some.end c.first_difference-shared.ensures c.in-Some.ensures.begun

pub are_apart-requires : goal.are_apart-requires
are_apart-requires c = parted-rest c.args.path.now c.args.base.now c.first_difference-shared.result c.in-Some.end c.first_difference-shared.ensures c.in-Some.ensures.begun

pub returns-in-Some-base_end : goal.returns-in-Some-base_end
returns-in-Some-base_end c =
    let t = c.args.path.now in
    let b = c.args.base.now in
    let s = separators windows t in
    let n = c.in-Some.end in
    let r = c.in-Some.separators in
    let one = c.in-Some.ensures.one in
    let end = c.in-Some-base_end.behind in
    let told = c.in-Some-base_end.ensures in
    let o = prefix_of windows t in
    let p = prefix_of windows b in
    let same : n ≡ raw_length p = one.3 ∙ ap raw_length (sym one.2) in
    let behind : take (length t - n) (drop n t) ≡ drop (raw_length o) t = take_rest t n ∙ ap (λ k. drop k t) one.3 in
    let wanted : take (length b - n) (drop n b) ≡ drop (raw_length p) b = take_rest b n ∙ ap (λ k. drop k b) same in
    let raw : take (raw_length o) t ≡ take (raw_length p) b =
    sym (ap (λ k. take k t) one.3) ∙ alike-before t b c.first_difference-shared.result n c.first_difference-shared.ensures c.in-Some.ensures.begun ∙ ap (λ k. take k b) same in
    let read : r ≡ s = sym one.0 in
    let some : 0 < length (drop (raw_length p) b) = subst (λ w. 0 < length w) wanted told.some in
    let items : (at : ℕ) → body s at (drop (raw_length o) t) ≡ body s at (drop (raw_length p) b) ++ later_body s (at + end) (drop end (drop (raw_length o) t)) = λ at. sym (λ i. body (read i) at (behind i)) ∙ told.items at ∙ (λ i. body (read i) at (wanted i) ++ later_body (read i) (at + end) (drop end (behind i))) in
    let clean : is_clean Inside s (drop end (drop (raw_length o) t)) ≡ true = sym (λ i. is_clean Inside (read i) (drop end (behind i))) ∙ told.clean in
    stripped-behind_prefix t b end o p refl refl (one.0 ∙ sym one.1) raw some items clean
    ∙ ap (λ rest. Some (drop end rest)) (sym behind) ∙ ap Some (sym (take_rest (take (length t - n) (drop n t)) end))

pub returns-then-begin_apart : goal.returns-then-begin_apart
returns-then-begin_apart c = stripped-not windows c.args.path.now c.args.base.now (c.begin_apart.ensures c.if-begin_apart.true)

pub returns-then-are_apart : goal.returns-then-are_apart
returns-then-are_apart c =
    let t = c.args.path.now in
    let u = c.args.base.now in
    let n = c.in-Some.end in
    let s = c.in-Some.separators in
    stripped-not windows t u
    (one-apart t u n s c.in-Some.ensures.one
    (sym (λ i. starts_with bytes_eq (texts (parts (body s 0 (take_rest t n i)))) (texts (parts (body s 0 (take_rest u n i))))) ∙ c.are_apart.ensures c.if-are_apart.true))
