pub mod Combos
pub mod Inverse
pub mod Operators
pub mod Ordered
pub mod Paid
pub mod Rounds
pub mod Tied
