pub mod Lines
pub mod Names
pub mod Planned
pub mod Planning
