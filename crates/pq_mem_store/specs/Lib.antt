pub mod Held
pub mod NotPairs
pub mod Runs
pub mod Split
