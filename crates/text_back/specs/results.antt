-- What is proved of a plan's text that is read back.
pub mod Theorem
pub mod BytesTheorem
pub mod TextTheorem
