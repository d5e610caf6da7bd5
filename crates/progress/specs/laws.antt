-- Laws of the portions.
pub mod Portions
