pub mod Opened
pub mod Opening
pub mod Within
