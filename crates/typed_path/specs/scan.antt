-- Readings from both ends.
pub mod Left
pub mod Reading
pub mod Ends
pub mod Steps
pub mod Masks
pub mod Pending
pub mod Blanks
pub mod Unread
pub use Rattle.typed_path.specs.scan.Blanks.{MarksNoBlank, begins_blank, has_blank_behind, is_blank, turned}
pub use Rattle.typed_path.specs.scan.Ends.{side_of, sides, taken_parts}
pub use Rattle.typed_path.specs.scan.Left.{Side, answer, back, but_last, cut_to, end_at, end_before_last, first_of, front, items_between, last_of, left, reads, reads_after, slice_after_back, slice_after_front, start_at}
pub use Rattle.typed_path.specs.scan.Masks.{IsBehindLastOf, IsFirstOf, IsMask, PartAt, TellsWhether, differs_at, differs_in, is_one_of, stands_at}
pub use Rattle.typed_path.specs.scan.Pending.{pending}
pub use Rattle.typed_path.specs.scan.Reading.{AreInOrder, IsLaidOut, IsWhole, answer_of, answers_after, backs, fronts, items_after, items_behind, slice_after, slice_behind}
pub use Rattle.typed_path.specs.scan.Steps.{IsParting, LeavesBack, LeavesFront, PartWithinNames, begins_with_name, body_from, counts, dots_rank, end_from, first_part, is_clean, is_trimmed, last_part, tells_name}
pub use Rattle.typed_path.specs.scan.Unread.{IsReading, is_unread, unread_items, unread_slice}
