-- Plan K of document 01, worked out by the definitions.
pub mod Few
pub mod PlanK
pub mod Extra
pub mod Jitter
pub mod Clock
pub mod Lighter
pub mod Order
pub mod Strict
pub mod Saved
pub mod Gates
pub mod FixedPoint
pub mod Reprice
pub mod Spans
pub mod Nearest
pub mod Newer
