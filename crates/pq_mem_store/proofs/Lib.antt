pub mod HeldPairs
pub mod PairMaps
pub mod Hashed
pub mod Places
pub mod Seats
pub mod Split
