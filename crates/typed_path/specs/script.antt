-- Lines of commands, and streams.
pub mod Lines
pub mod Commands
pub mod Dialogue
pub mod Status
pub use Rattle.typed_path.specs.script.Commands.{command_name, end_byte, texts_reply}
pub use Rattle.typed_path.specs.script.Dialogue.{AnswersAll, AppendsIfTold, ConsumesIfTold, Ends, KeepsIfTold, RunsOut, StopsReading, StopsWriting, Streams, WritesPart, streams}
pub use Rattle.typed_path.specs.script.Lines.{AnswersFirst, all_lines, answers, bad_line, bare_reply, complete_lines, component_field, components_reply, convert_reply_in, converted_reply, derived_reply, dialect_name, dialect_named, ended, equals_sign, fields_behind, fields_of, in_named, joined_reply, kind_name, last_line, line_feed, lines_of, open_line, pair_reply_in, prefix_name, refusal_name, replies_to, reply, reply_fields, reply_in, reply_line, split_lines, tab, text_reply}
pub use Rattle.typed_path.specs.script.Status.{status_of}
