use Rattle.std.proofs.Common.{sym, ◌∙◌, take, drop, take-append-drop}
use Rattle.std.proofs.lemmas.List.{take_rest}
use Rattle.typed_path.proofs.lemmas.script.Streams.{Writes-step}
use Rattle.typed_path.proofs.script.answer.write_all.Goals as goal

pub writes-preserved : goal.writes-preserved
writes-preserved g c = record {
  written = rw (take_rest c.writes.rest.now c.in_ok-count.count)
      (Writes-step (g.W.Sink.contents c.write.new.self) (take c.in_ok-count.count c.writes.rest.now) (drop c.in_ok-count.count c.writes.rest.now)
      (sym (take-append-drop c.in_ok-count.count c.writes.rest.now)) c.in_ok-count.ensures.bytes c.writes.invariant.written);
  unfailed = c.in_ok-count.ensures.unfailed ∙ c.writes.invariant.unfailed;
}
