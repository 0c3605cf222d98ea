pub mod Laws
pub mod Script
pub mod Summary
pub mod Words
