pub mod Lists
pub mod Places
pub mod Codes
pub mod Rising
pub mod Ordered
