pub mod Grown
pub mod Runnable
