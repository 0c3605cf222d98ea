pub mod Printed
pub mod Said
pub mod Orderly
pub mod WholeStatements
pub mod ReadBack
