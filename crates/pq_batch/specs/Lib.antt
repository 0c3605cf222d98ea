pub mod Batches
pub mod From
pub mod Promises
