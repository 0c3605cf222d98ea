pub mod Lots
