pub mod Counting
pub mod Defining
