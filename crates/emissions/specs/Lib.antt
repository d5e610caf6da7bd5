-- The bad emission of a port that fails: what it is, what is answered of it, and what the answers mean.
pub mod BadEmission
pub mod Burst
pub mod Unsent
pub mod Meaning
pub mod Queued
pub mod laws
pub mod results
pub mod worked
