pub mod Paged
pub mod Rounds
pub mod Unbuilt
