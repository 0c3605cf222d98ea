pub mod ChangeLists
pub mod Fronts
pub mod Plain
pub mod Rows
pub mod Stored
pub mod Widths
