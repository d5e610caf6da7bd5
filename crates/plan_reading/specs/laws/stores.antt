-- Laws of the tables as parts are stored into them, column by column and slot by slot.
pub mod Stores
pub mod Puts
pub mod Tables
pub mod Commute
pub mod Stored
pub mod Zero
pub mod Columns
pub mod Sources
pub mod Fresh
