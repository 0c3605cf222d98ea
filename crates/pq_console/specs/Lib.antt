pub mod Memory
pub mod Outside
pub mod Reading
pub mod Stops
