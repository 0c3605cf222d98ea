pub mod Asking
pub mod Batches
pub mod Found
pub mod Statements
