pub mod Changing
pub mod Settling
pub mod Errors
pub mod Counting
pub mod Spending
pub mod Writing
