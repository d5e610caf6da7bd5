-- The least duration in portions of steps.
pub mod Portion
pub mod laws
