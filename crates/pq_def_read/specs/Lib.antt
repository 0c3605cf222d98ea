pub mod Definitions
pub mod Writes
pub mod Reading
pub mod Shrinking
pub mod Grammar
pub mod Faults
pub mod Known
