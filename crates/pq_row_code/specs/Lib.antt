pub mod ChangeReading
pub mod Changes
pub mod RowCode
pub mod RowReading
pub mod StoredRow
