pub mod Bounds
pub mod Filling
pub mod Stages
pub mod Standing
pub mod Targets
pub mod Told
