pub mod Bytes
pub mod Cutting
pub mod Forms
pub mod Parts
pub mod Pieces
pub mod Scanning
pub mod Summaries
pub mod Tokens
