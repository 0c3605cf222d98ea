pub mod Language
pub mod Reader
pub mod Answers
pub mod Shrinking
