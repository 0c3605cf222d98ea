mod Alone
pub mod Batching
pub mod Changing
pub mod Tallied
pub mod Writing
mod Unmade
