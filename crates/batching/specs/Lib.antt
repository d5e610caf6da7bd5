-- The code's batches.
pub mod Slots
pub mod Answer
pub mod laws
