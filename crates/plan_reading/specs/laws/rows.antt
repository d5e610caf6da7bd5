-- A row of fields: its bytes, that they are read as the row, and its parts.
pub mod SavedRow
pub mod RowParts
pub mod Spelled
pub mod Written
pub mod EntryRead
pub mod RowRead
pub mod RowAbsent
pub mod RowAccepted
