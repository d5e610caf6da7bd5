-- Laws of the spans.
pub mod Runs
pub mod SpanList
pub mod Ending
pub mod Pieces
pub mod Certified
