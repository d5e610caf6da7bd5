-- Laws of the bad emission.
pub mod Moved
pub mod Kept
pub mod Track
pub mod Sendable
pub mod Unsent
pub mod Hops
pub mod Burst
pub mod Queued
pub mod Over
pub mod Answers
