-- Laws of one field: its numbers in range, its kind and its parts, and its bytes as they are read and written.
pub mod Within
pub mod Passes
pub mod Ranged
pub mod ByPart
pub mod Counted
pub mod Kinds
pub mod Found
pub mod Encoded
pub mod Decoded
