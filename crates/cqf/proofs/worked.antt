-- Worked examples.
pub mod K
pub mod Jitter
pub mod Clock
pub mod Cycles
pub mod FixedPoint
pub mod Lighter
pub mod Reprice
