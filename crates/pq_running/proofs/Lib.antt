pub mod Begins
pub mod Columns
