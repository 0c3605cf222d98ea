pub mod Places
pub mod Made
pub mod Digits
pub mod Tokens
pub mod Operators
pub mod Passing
