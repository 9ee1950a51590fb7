-- The lemmas, by subject.
pub mod lists
pub mod components
pub mod scan
pub mod queries
pub mod order
pub mod changes
pub mod places
pub mod conversions
pub mod promises
pub mod script
pub mod texts
