-- The spans of a plan (document 02): the runs of admissible durations that can grow at neither end, and the list of them.
pub mod Span
pub mod laws
pub mod results
pub mod worked
