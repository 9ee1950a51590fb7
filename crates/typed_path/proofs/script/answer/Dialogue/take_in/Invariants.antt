use Rattle.std.proofs.Common.{◌≡◌, [], ◌++◌, length}
use Rattle.typed_path.specs.script.{split_lines, replies_to, complete_lines, open_line}
use Rattle.typed_path.proofs.script.answer.Dialogue.take_in.Given as goal

abbrev pub invariant-lines : goal.invariant-lines
invariant-lines l = record {
  none_open : l.self.line.items ≡ [];
  replies : l.self.replies.items ++ replies_to (complete_lines l.rest)
      ≡ l.fn.self.replies.items ++ replies_to (complete_lines (l.fn.self.line.items ++ l.fn.input));
  line : open_line l.rest ≡ open_line (l.fn.self.line.items ++ l.fn.input);
}

abbrev pub decreases-lines : goal.decreases-lines
decreases-lines l = length (split_lines l.rest)
