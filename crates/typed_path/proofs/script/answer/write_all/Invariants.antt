use Rattle.std.proofs.Common.{◌≡◌, length}
use Rattle.typed_path.proofs.lemmas.script.Streams.{Writes}
use Rattle.typed_path.proofs.script.answer.write_all.Given as goal

abbrev pub invariant-writes : goal.invariant-writes
invariant-writes g l = record {
  written : Writes (g.W.Sink.contents l.fn.writer) (g.W.Sink.contents l.writer) l.bytes l.rest;
  unfailed : g.W.Sink.has_failed l.writer ≡ g.W.Sink.has_failed l.fn.writer;
}

abbrev pub decreases-writes : goal.decreases-writes
decreases-writes g l = length l.rest
