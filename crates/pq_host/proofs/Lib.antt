pub mod Asking
pub mod Broken
pub mod Exchanges
pub mod Parted
pub mod Paying
pub mod Testing
pub mod Untold
