pub mod Words
pub mod Writes
pub mod Dealing
pub mod Lines
pub mod Telling
pub mod Runs
