-- What is proved of gate control lists.
pub mod Theorem
