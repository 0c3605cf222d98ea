pub mod Answered
pub mod Leaving
pub mod Lefts
pub mod Openings
pub mod Reopening
pub mod Rereading
pub mod Starting
pub mod Within
