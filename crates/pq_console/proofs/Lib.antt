pub mod Known
pub mod Taking
