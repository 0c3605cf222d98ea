pub mod Coded
pub mod Groups
