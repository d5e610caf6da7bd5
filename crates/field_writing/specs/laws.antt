-- Laws of a field that is written alone.
pub mod Whole
pub mod Back
pub mod Long
pub mod Narrow
pub mod Accepted
