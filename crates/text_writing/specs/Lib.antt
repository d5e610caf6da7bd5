-- The text of a plan, written into a lent buffer: what is written, and what the writing answers and leaves.
pub mod Puts
pub mod Bytes
pub mod Text
pub mod Answer
pub mod laws
