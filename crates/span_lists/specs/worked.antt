-- Worked examples.
pub mod Spans
