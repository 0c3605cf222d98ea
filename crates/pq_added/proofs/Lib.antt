pub mod Before
pub mod Grown
