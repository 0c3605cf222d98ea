pub mod Arrange
pub mod Classes
pub mod Labels
pub mod Laws
pub mod Moves
pub mod Placing
