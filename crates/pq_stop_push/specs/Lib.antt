pub mod Having
pub mod Pushes
