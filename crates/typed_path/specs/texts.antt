-- What is a text in UTF-8.
pub mod Texts
pub mod TextErrors
pub use Rattle.typed_path.specs.texts.TextErrors.{IsTextError, part_no_text, prefix_no_text}
pub use Rattle.typed_path.specs.texts.Texts.{IsTextReading, are_text_parts, are_texts, has_text_names, have_text_names, is_text_kind, is_text_option, is_text_part, is_text_part_option, is_text_prefix}
