pub mod examples
pub mod lemmas
