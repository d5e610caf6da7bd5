-- Laws of the walk over the fields, what an accepted plan is, the strict reading, and what is saved.
pub mod fields
pub mod stores
pub mod reading
pub mod validity
pub mod order
pub mod rows
pub mod saved
pub mod newer
