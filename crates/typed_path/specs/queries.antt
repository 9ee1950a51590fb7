-- What a path answers about itself.
pub mod Queries
pub mod Names
pub mod Ancestry
pub mod Texts
pub mod Strip
pub mod Shared
pub mod Simplified
pub mod Portable
pub mod PrefixNames
pub use Rattle.typed_path.specs.queries.Ancestry.{IsOneBelow, ancestors_of, is_child_of, is_read_as, is_top, readings_above, readings_behind, upwards, upwards_from}
pub use Rattle.typed_path.specs.queries.Names.{extension_of, first_stem_of, has_extension, is_a_dot, stem_of}
pub use Rattle.typed_path.specs.queries.Portable.{IsPortableName, control_at, ends_unkept, has_portable_bytes, is_a_colon, is_backslash, is_control, is_portable, is_portable_name, kind_fault, kind_may_be_device, kinds_fault, longest_name, may_be_device, may_offend, name_fault, name_may_be_device, offender, offender_or, portable_fault, strays_on_windows, unportable}
pub use Rattle.typed_path.specs.queries.PrefixNames.{AreNamesOf}
pub use Rattle.typed_path.specs.queries.Queries.{begins_with_prefix, begins_with_root, behind_prefix, extension, file_name_of, file_prefix_of, file_stem_of, first_prefix, has_allowed_bytes, has_any_verbatim_prefix, has_device_ns_prefix, has_disk_prefix, has_implicit_root, has_physical_root, has_prefix, has_root, has_trailing_separator, has_unc_prefix, has_verbatim_disk_prefix, has_verbatim_prefix, has_verbatim_unc_prefix, have_allowed_bytes, is_absolute, is_disallowed, is_disk, is_prefix, is_reserved, is_root, is_valid, is_valid_kind, is_valid_name, is_verbatim_prefix, kind_has_allowed_bytes, name_of, parent_of, path_ends_with, path_starts_with, prefix_among, prefix_in, prefix_length, prefix_part_in, reserved_names, share_length, stripped}
pub use Rattle.typed_path.specs.queries.Shared.{IsSharedEnd, ShareFront, common_ancestor_of, end_of_first, shared_count, shared_end, unless_empty}
pub use Rattle.typed_path.specs.queries.Simplified.{can_be_simplified, ends_in, further_devices, is_a_space, is_device_stem, is_exact, is_exact_name, is_further_device, is_simple, is_taken_for_device, is_verbatim_drive, is_written_root, simplified_text, space, with_drive, without_last_spaces}
pub use Rattle.typed_path.specs.queries.Strip.{stripped_to}
pub use Rattle.typed_path.specs.queries.Texts.{text_of_bytes}
