pub mod Answers
pub mod Batch
pub mod Parts
pub mod HasherViews
pub mod Steps
pub mod Places
pub mod Texts
