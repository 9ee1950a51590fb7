use Rattle.std.proofs.Common.{◌≡◌, ◌<◌, length, rules, sym, ◌∙◌, append-nil, append_assoc}
use Rattle.std.proofs.Math.Utf8.{encode}
use Rattle.std.proofs.lemmas.Str.{utf8_lossy_chunk, utf8_lossy_last_chunk, utf8_lossy_empty}
use Rattle.typed_path.proofs.common.texts.replaced.Goals as goal

pub chunks-preserved-in-Continue-branch-3 : goal.chunks-preserved-in-Continue-branch-3
unfolding encode
chunks-preserved-in-Continue-branch-3 c =
    let steps = c.in-Some.ensures.steps in
    let some : 0 < length c.in-Some.chunk.invalid.now = search rules in
    let text = utf8_lossy_chunk _ _ _ _ steps.0 steps.3.0 steps.3.1 some in
    rw (c.in_ok-push.ensures.bytes, c.in_ok-push_str.ensures.bytes, c.valid.ensures)
    (simp append_assoc (rw text at c.chunks.invariant))

pub chunks-preserved : goal.chunks-preserved
chunks-preserved c =
    let steps = c.in-Some.ensures.steps in
    let none : length c.in-Some.chunk.invalid.now ≡ 0 = search rules in
    let text = utf8_lossy_last_chunk _ _ _ _ steps.0 steps.3.0 none (steps.2 none) in
    rw (c.in_ok-push_str.ensures.bytes, c.valid.ensures, append_assoc) (rw text at c.chunks.invariant)

pub returns : goal.returns
returns c = sym (append-nil _) ∙ rw (utf8_lossy_empty _ c.in-None.ensures.steps.0) at c.chunks.invariant
