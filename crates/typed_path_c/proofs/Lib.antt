pub mod Batches
pub mod Crossed
pub mod Spans
pub mod Stepped
pub mod Placed
pub mod Held
