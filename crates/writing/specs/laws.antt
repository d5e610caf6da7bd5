-- Laws of bytes that are laid into a buffer, and of the fields that are written.
pub mod Laid
pub mod Route
pub mod Fields
pub mod Answer
