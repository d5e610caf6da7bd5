-- What a plan says, the fields as which it is saved, and that they are read back.
pub mod Entries
pub mod Tidy
pub mod Says
pub mod SavedOrder
pub mod SavedOk
pub mod SavedLength
pub mod SavedCounts
pub mod Counts
pub mod SavedSlots
pub mod SavedTables
pub mod SavedRead
pub mod SavedBack
pub mod Relength
