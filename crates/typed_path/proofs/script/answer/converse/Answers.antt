use Rattle.std.proofs.Common.{◌≡◌, ℕ, List, [], ◌++◌, take, ap, arith, ◌∙◌, Result, OnOk, OnErr, IsErrAnd}
use Rattle.typed_path.proofs.lemmas.script.Streams.{Reads-runs_out, Reads-step, Reads-stops_writing, Reads-answers_all, Reads-stops_at_end, ends-writing, ends-out, ends-sent}
use Rattle.typed_path.proofs.script.answer.converse.Goals as goal

on_ok : {T E P Q S : Type 0} (r : Result T E) → OnOk r P → OnOk r Q → (P → Q → S) → OnOk r S
on_ok r h k f = grind arith

on_err : {T E P Q S : Type 0} (r : Result T E) → OnErr r P → OnErr r Q → (P → Q → S) → OnErr r S
on_err r h k f = grind arith

-- an error that is passed on
err-is : {T E : Type 0} {x : E} (r : Result T E) (e : E) → IsErrAnd r (λ y. y ≡ e) → e ≡ x → IsErrAnd r (λ y. y ≡ x)
err-is r e is same = grind arith

pub returns-in_err-take_in : goal.returns-in_err-take_in
returns-in_err-take_in g c = ends-out _ _ c.from_residual.result c.from_residual.ensures.1 (Reads-runs_out c.reads.invariant.reads _ _ _ c.in-Ok.ensures.bytes c.in-Ok.ensures.unfailed)

-- the replies that are sent: none were left before
replies_are : (old new more : List ℕ) → old ≡ [] → new ≡ old ++ more → new ≡ more
replies_are old new more none e = e ∙ ap (λ bs. bs ++ more) none

pub reads-preserved : goal.reads-preserved
reads-preserved g c =
    let sent = replies_are _ _ _ c.reads.invariant.no_replies c.in_ok-take_in.ensures.replies in record {
      reads = Reads-step c.reads.invariant.reads _ (take c.in-Ok.count c.read.new.buffer) _ c.in-Ok.ensures.bytes
          (rw sent at c.in_ok-send.ensures.written) (c.in_ok-send.ensures.line ∙ c.in_ok-take_in.ensures.line) c.in-Ok.ensures.unfailed c.in_ok-send.ensures.unfailed;
      no_replies = c.in_ok-send.ensures.emptied;
    }

pub returns-in_err-send : goal.returns-in_err-send
returns-in_err-send g c =
    let sent = replies_are _ _ _ c.reads.invariant.no_replies c.in_ok-take_in.ensures.replies in
    let wrote = err-is c.from_residual-in_err-send.result _ c.from_residual-in_err-send.ensures.1 c.in_err-send.ensures.error in
    ends-writing _ _ c.from_residual-in_err-send.result wrote
    (Reads-stops_writing c.reads.invariant.reads _ (take c.in-Ok.count c.read.new.buffer) c.in-Ok.ensures.bytes
    (rw sent at c.in_err-send.ensures.part) c.in-Ok.ensures.unfailed c.in_err-send.ensures.failed)

pub returns-in_err-finish : goal.returns-in_err-finish
returns-in_err-finish g c = ends-out _ _ c.from_residual-in_err-finish.result c.from_residual-in_err-finish.ensures.1 (Reads-runs_out c.reads.invariant.reads _ _ _ c.in-Ok.ensures.bytes c.in-Ok.ensures.unfailed)

pub returns : goal.returns
returns g c =
    let sent = replies_are _ _ _ c.reads.invariant.no_replies c.in_ok-finish.ensures in
    let input = rw c.if-count-eq0.true at c.in-Ok.ensures.bytes in
    let end = c.in-Ok.ensures.end c.if-count-eq0.true (omega arith) in
    ends-sent _ _ c.send-2.result c.send-2.ensures.error
    (on_ok c.send-2.result c.send-2.ensures.written c.send-2.ensures.unfailed (λ written unfailed.
    Reads-answers_all c.reads.invariant.reads _ input end (rw sent at written) c.in-Ok.ensures.unfailed unfailed))
    (on_err c.send-2.result c.send-2.ensures.part c.send-2.ensures.failed (λ part failed.
    Reads-stops_at_end c.reads.invariant.reads _ input end (rw sent at part) c.in-Ok.ensures.unfailed failed))
