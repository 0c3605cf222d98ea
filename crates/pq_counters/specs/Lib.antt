pub mod Bounds
pub mod Evidence
pub mod Groups
pub mod Planning
pub mod Promises
pub mod Steps
pub mod Whole
