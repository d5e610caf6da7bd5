-- What holds of the converters.
pub mod Theorem
