pub mod Asked
pub mod Coded
pub mod Partners
