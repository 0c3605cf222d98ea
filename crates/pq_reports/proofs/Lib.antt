pub mod Planned
pub mod Promises
