-- Laws of what the encoding of a text answers and leaves.
pub mod Encode
pub mod Room
