-- Laws of the order of fields: what hangs on it, what does not, and the strict reading.
pub mod Ranks
pub mod Late
pub mod Rows
pub mod Strictly
pub mod OutOfOrder
pub mod InOrder
pub mod Order
pub mod Content
