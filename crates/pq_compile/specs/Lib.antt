pub mod Chosen
pub mod Lowered
