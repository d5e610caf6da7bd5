-- Every accepted plan is valid: slot by slot, part by part.
pub mod Slots
pub mod Held
pub mod Parts
pub mod Valid
