pub mod Counts
pub mod Content
pub mod Breaks
pub mod Rounds
