use Rattle.std.proofs.Common.{◌≡◌, ◌+◌, ◌-◌, ◌≤◌, ◌++◌, take, drop, length, vec_len, vec_capacity}
use Rattle.typed_path.specs.changes.{text_after, replies, FitsAll}
use Rattle.typed_path.specs.views.RunViews.{operations_of, responses_of}
use Rattle.typed_path.proofs.script.run.run_ops.Given as goal

abbrev pub invariant-operations : goal.invariant-operations
invariant-operations g l = record {
  text : l.path.bytes ≡ text_after g.T.Encoding.dialect l.fn.path.bytes (take l.operation-index (operations_of l.operations));
  answered : responses_of l.replies.items ≡ responses_of l.fn.replies.items ++ replies g.T.Encoding.dialect l.fn.path.bytes (take l.operation-index (operations_of l.operations));
  room : l.fn.path.capacity ≤ l.path.capacity;
  fits : FitsAll g.T.Encoding.dialect l.fn.path.capacity l.fn.path.bytes (operations_of l.operations)
      → FitsAll g.T.Encoding.dialect l.fn.path.capacity l.path.bytes (drop l.operation-index (operations_of l.operations));
  replies_fit : vec_len l.fn.replies + length l.operations ≤ vec_capacity l.fn.replies
      → vec_len l.replies + (length l.operations - l.operation-index) ≤ vec_capacity l.replies;
}
