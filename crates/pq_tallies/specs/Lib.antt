pub mod Counters
pub mod Defined
pub mod Moves
pub mod Writes
