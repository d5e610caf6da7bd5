-- What is proved of batches.
pub mod Theorem
pub mod Sharp
