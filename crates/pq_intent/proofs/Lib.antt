pub mod Steps
pub mod Ends
pub mod Codes
pub mod Wanting
