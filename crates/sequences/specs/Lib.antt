-- Sequences of calls: what comes back of each, what it means, and the theorems.
pub mod Calls
pub mod Reply
pub mod Meaning
pub mod Restored
pub mod Scheduled
pub mod NoWorse
pub mod Iterations
pub mod FixedPointMeaning
pub mod GatesMeaning
pub mod Repriced
pub mod Lean
pub mod SpansMeaning
pub mod NearestMeaning
pub mod laws
pub mod results
