pub mod Pending
pub mod Calls
pub mod Placed
pub mod Gets
pub mod Tests
