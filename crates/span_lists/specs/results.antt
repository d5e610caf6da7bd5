-- What is claimed of the spans of a plan.
pub mod Theorem
