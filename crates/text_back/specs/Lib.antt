-- The text of a plan, read back: it gives the plan again, and so the bytes as which the plan is saved.
pub mod Encodes
pub mod laws
pub mod results
