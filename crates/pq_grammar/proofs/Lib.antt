pub mod Steps
pub mod Readers
pub mod Options
pub mod Repeats
pub mod Loops
pub mod Lists
pub mod Choices
pub mod Whole
