pub mod Having
pub mod Orders
pub mod Ranges
pub mod Tables
pub mod Trees
