-- Conversion of a plan's bytes from one form to the other: what it answers and leaves, and what it means.
pub mod Convert
pub mod Answer
pub mod Outcome
pub mod Meaning
pub mod laws
pub mod results
