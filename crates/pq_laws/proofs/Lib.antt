pub mod Arranging
pub mod Paging
pub mod RunPages
pub mod Selecting
pub mod Spelling
pub mod Unique
