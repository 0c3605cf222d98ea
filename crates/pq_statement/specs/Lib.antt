pub mod Actions
pub mod Batches
pub mod Readings
pub mod Requests
