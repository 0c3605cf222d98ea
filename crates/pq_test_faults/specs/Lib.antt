pub mod Faults
pub mod Switching
