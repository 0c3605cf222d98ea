pub mod Few
pub mod Page
pub mod Parts
pub mod Running
