-- The bytes of a field (document 01): numbers, head and value, and what the value says.
pub mod Bytes
pub mod Layout
pub mod Field
pub mod Answer
pub mod laws
