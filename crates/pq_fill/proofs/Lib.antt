pub mod Places
mod Totals
