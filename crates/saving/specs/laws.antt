-- Laws of the fields of a plan, and of what saving answers.
pub mod Saved
pub mod Slots
pub mod Sizes
pub mod Whole
pub mod Outcome
