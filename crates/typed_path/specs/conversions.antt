-- The other dialect, absolute texts.
pub mod Convert
pub use Rattle.typed_path.specs.conversions.Convert.{AllowsCrossing, CrossesTurned, FitsConverted, IsUnrefused, absolute_from, absolute_under, converted, converted_checked, crossed, crossed_all, crossing_fault, is_never_refused, platform, push_checked_each, push_unless, same_dialect, separator_of}
