pub mod Members
pub mod SameValues
pub mod Sets
pub mod Sorts
pub mod Sums
pub mod WordOrder
pub mod Shuffles
pub mod TypeFits
