-- JSON values.
pub mod Values
pub use Rattle.typed_path.specs.values.Values.{FailsBy, IsValueOf, is_json_text}
