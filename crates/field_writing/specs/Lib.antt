-- Single fields written from their numbers: what a call answers, and what it leaves in the buffer.
pub mod Writes
pub mod Answer
pub mod Narrow
pub mod laws
pub mod results
