pub mod Clips
pub mod Tally
pub mod Spans
pub mod Gathered
pub mod Asking
