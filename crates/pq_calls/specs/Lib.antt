pub mod Calls
pub mod Evidence
pub mod Keys
pub mod World
