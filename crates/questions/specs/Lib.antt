-- The questions: what each answers and leaves.
pub mod Outcome
pub mod FixedPoint
pub mod Reprice
pub mod Answer
pub mod laws
pub mod Failing
pub mod Search
pub mod FlowSet
pub mod PortSearch
pub mod Lean
pub mod Run
pub mod Spans
pub mod SpanList
pub mod SpanAnswer
pub mod Nearest
