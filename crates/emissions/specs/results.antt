-- What is proved of the bad emission.
pub mod Theorem
