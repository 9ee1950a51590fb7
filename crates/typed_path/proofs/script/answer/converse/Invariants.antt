use Rattle.std.proofs.Common.{◌≡◌, []}
use Rattle.typed_path.specs.script.{streams}
use Rattle.typed_path.proofs.lemmas.script.Streams.{Reads}
use Rattle.typed_path.proofs.script.answer.converse.Given as goal

abbrev pub invariant-reads : goal.invariant-reads
invariant-reads g l = record {
  reads : Reads
      (streams (g.R.Source.remaining l.fn.reader) (g.R.Source.has_failed l.fn.reader) (g.W.Sink.contents l.fn.writer) (g.W.Sink.has_failed l.fn.writer))
      (streams (g.R.Source.remaining l.reader) (g.R.Source.has_failed l.reader) (g.W.Sink.contents l.writer) (g.W.Sink.has_failed l.writer))
      l.dialogue.line.items;
  no_replies : l.dialogue.replies.items ≡ [];
}

abbrev pub decreases-reads : goal.decreases-reads
decreases-reads g l = g.R.Source.bound l.reader
