-- Equality, order and hashing.
pub mod Same
pub mod Words
pub mod KeyWords
pub mod KeyBytes
pub mod TextWords
pub mod Laws
pub mod Keyed
pub mod Lowered
pub use Rattle.typed_path.specs.order.Laws.{exact_kinds, exact_lists, kind_cmp_total, kinds_cmp_total, path_cmp_total, same-kinds, same-writes}
pub use Rattle.typed_path.specs.order.Same.{IsSame, are_same_prefixes, bytes_cmp, is_same, kind_cmp, kinds_cmp, left_cmp, left_same, path_cmp}
pub use Rattle.typed_path.specs.order.TextWords.{text_kind_words, text_piece_words, text_prefix_words, text_unix_words, text_windows_words}
pub use Rattle.typed_path.specs.order.KeyWords.{IsKeyed, IsToldApart, key_words, key_words_before, kind_key_words, kinds_key_words, length_prefixed, length_words, prefix_key_words}
pub use Rattle.typed_path.specs.order.KeyBytes.{AreFed, AreFedAlike, IsPutFrom, chunked, key_bytes, key_writes, left_key_bytes}
pub use Rattle.typed_path.specs.order.Lowered.{IsLoweredBehind, lowered, lowered_begins, lowered_behind, lowered_bytes_cmp, lowered_cmp, lowered_kind, lowered_kinds, lowered_part, lowered_placed, lowered_prefix, mark_before, mark_in, mark_length}
