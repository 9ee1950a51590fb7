-- What changes a path.
pub mod Push
pub mod Fault
pub mod Changes
pub mod Checked
pub mod Reserved
pub mod Joined
pub mod Run
pub mod Spelled
pub mod Place
pub mod Putting
pub use Rattle.typed_path.specs.changes.Changes.{cut_at, dotted, name_end, popped, start_of_last, stem_end, with_added_extension, with_extension, with_file_name, without_file_name}
pub use Rattle.typed_path.specs.changes.Checked.{AreMayBegins, BeginsNone, TellsBegins, SeparatesDisallowed, begins_as_device, begins_like_device, begins_with_device, begins_with_nul_or_dot_pair, begins_with_separator, dot_pair_at, ends_stem, error_of, forbidden_at, has_device, has_device_behind, has_dot_pair, has_no_nul_or_dot_pair, has_second_colon, has_stray_of, is_forbidden, is_forbidden_or, is_in, is_letter_of, is_nul_or_dot_pair, is_stray, may_end_stem, nul_or_dot_pair_at, refusal, stray_of_at}
pub use Rattle.typed_path.specs.changes.Fault.{fault, fault_at, fault_behind, judged, offence}
pub use Rattle.typed_path.specs.changes.Joined.{either_fault, join_error, join_fault, join_refusal}
pub use Rattle.typed_path.specs.changes.Place.{IsNoneOrSeparator, put_in_place}
pub use Rattle.typed_path.specs.changes.Push.{FitsBy, FitsPush, HaveOnePrefix, IsPutBehind, ended_windows, ended_with, is_disk_alone, joint, merge_by_kind, merged, merges, prefix_alone, push, push_all, push_behind, push_unix, push_windows, raw_length, raw_prefix, spelled, spells_anew, without_last_name}
pub use Rattle.typed_path.specs.changes.Putting.{Puts, PutsPart}
pub use Rattle.typed_path.specs.changes.Reserved.{is_bare_device, is_numbered_device, is_device}
pub use Rattle.typed_path.specs.changes.Run.{FitsAll, FitsEach, FitsStep, Operation, Response, clear_op, done, extend_op, flag, pop_op, push_checked_op, push_op, refused, replies, set_extension_op, set_file_name_op, step, text_after}
pub use Rattle.typed_path.specs.changes.Spelled.{AreMergeable, AreNamesBefore, AreReadBehind, HoldsNames, IsKnown, IsMergeable, IsReadFirst, IsSpelled, IsSpelledHead, IsStanding, Stands, TellsNames, TellsSpelled, begins_no_name, begins_no_name_at, is_component, is_name_piece, is_row, jointed, names_behind, names_of, room_of}
