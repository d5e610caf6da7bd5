-- Laws of the load.
pub mod Copy
pub mod Empty
pub mod Load
pub mod Lent
pub mod Twice
pub mod Covers
pub mod Marked
pub mod Filled
pub mod Named
pub mod Behind
pub mod Route
