pub mod Checks
pub mod Written
