-- Laws of batches.
pub mod Steps
pub mod Turned
pub mod Slots
pub mod Turns
pub mod Calls
pub mod Placed
