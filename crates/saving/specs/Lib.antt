-- Saving: the bytes of fields written into a lent buffer, and what saving answers and leaves.
pub mod Slots
pub mod Save
pub mod Outcome
pub mod Answer
pub mod laws
