-- What a text is made of.
pub mod Dialects
pub mod Parts
pub mod Prefixes
pub mod Comps
pub mod Written
pub use Rattle.typed_path.specs.components.Comps.{Segment, body, body_of, component, comps, comps_behind, first, is_dot, is_dot_dot, later, later_body, named, parts_of, placed, segments}
pub use Rattle.typed_path.specs.components.Dialects.{Dialect, backslash, begins_verbatim, colon, dialect_of, dot, is_separator, is_verbatim, iterator_name, label_of, question, root_of, root_text, separators, slash, unix, windows}
pub use Rattle.typed_path.specs.components.Parts.{Kind, Part, Placed, Prefix, current, current_part, device_ns, disk, end_of, is_current, is_name, is_parent, kinds, name_part, normal, parent, parent_part, parts, prefix, prefix_part, root, root_part, texts, unc, verbatim, verbatim_disk, verbatim_unc}
pub use Rattle.typed_path.specs.components.Prefixes.{Found, IsPartedDrive, after_four, after_mark, after_two, after_unc, device_case, disk_case, drive, found, is_drive_letter, is_empty, name, names_length, prefix_of, second_name, to_upper, unc_case, verbatim_case, verbatim_disk_case, verbatim_unc_case}
pub use Rattle.typed_path.specs.components.Written.{as_written, written, written_windows}
