pub mod Lists
pub mod Names
pub mod Once
pub mod Plans
pub mod Shown
