pub mod Canonical
pub mod Lists
pub mod Refusals
pub mod Report
pub mod Values
