-- Batches of plans (document 02: eight plans in turn).
pub mod Slot
pub mod Batch
pub mod Calls
pub mod Turns
pub mod laws
pub mod results
pub mod worked
