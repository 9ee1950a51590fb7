use Rattle.std.proofs.Common.{[], ◌++◌, ap, sym, subst, ◌≡◌, ◌∙◌, arith, Err, Some, OnOk}
use Rattle.std.specs.Prelude.{⊤}
use Rattle.typed_path.specs.changes.{refusal}
use Rattle.typed_path.specs.script.{reply_line, joined_reply, converted_reply}
use Rattle.typed_path.proofs.lemmas.script.Lines.{put_same, text_answered, text_cut_off}
use Rattle.typed_path.proofs.script.lines.put_converted_checked.Goals as goal

pub returns-in_ok-push-in-Ok : goal.returns-in_ok-push-in-Ok
returns-in_ok-push-in-Ok g c = grind (arith, text_answered)

pub returns-in-Err-Checked : goal.returns-in-Err-Checked
returns-in-Err-Checked g c =
    let fault = c.in-Err-Checked.ensures.refused c.in-Err-Checked.refusal (ap (λ e. refusal {A = ⊤} (Err e)) c.in-Err-Checked.field-0-is) in
    let cut = text_cut_off c.args.replies.now.items _ c.convert_checked.new.text.items c.len-start.result c.in_ok-extend_from_slice.ensures.items (omega (arith, c.len-start.ensures, c.extend_from_slice.new.self.ok)) c.convert_checked.ensures.kept c.len-len.result (omega (arith, c.len-len.ensures, c.args.replies.now.ok)) in
    put_same _ _ _ (joined_reply [] (Some c.in-Err-Checked.refusal)) _ (ap converted_reply (sym fault))
    (subst (λ bs. OnOk c.put_refusal.result (c.put_refusal.new.replies.items ≡ bs ++ reply_line (joined_reply [] (Some c.in-Err-Checked.refusal)))) (c.truncate.ensures.items ∙ cut) c.put_refusal.ensures)
