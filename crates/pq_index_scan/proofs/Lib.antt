pub mod Ranging
pub mod Following
pub mod Parts
pub mod Placed
pub mod Read
pub mod Stopping
