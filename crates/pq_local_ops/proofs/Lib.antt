pub mod Codes
pub mod Gathered
pub mod Parts
pub mod Sorted
pub mod InOrder
