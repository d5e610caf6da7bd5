-- Bytes and fields written into a lent buffer, and what a call that writes answers.
pub mod Laid
pub mod Fields
pub mod Answer
pub mod laws
