pub mod Extends
pub mod Format
pub mod Kept
pub mod Model
pub mod Stands
