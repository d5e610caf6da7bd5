-- The load: what it answers and leaves, and its working values.
pub mod Outcome
pub mod Answer
pub mod Lent
pub mod Loading
pub mod laws
