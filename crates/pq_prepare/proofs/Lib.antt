pub mod Built
pub mod Prepared
