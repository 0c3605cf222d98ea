pub mod Pages
pub mod Spelling
