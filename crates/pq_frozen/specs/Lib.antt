pub mod Frozen
pub mod Reading
