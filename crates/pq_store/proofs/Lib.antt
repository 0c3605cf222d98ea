pub mod Answered
pub mod Places
pub mod Views
pub mod Uses
pub mod Rounds
