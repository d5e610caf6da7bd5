-- Laws of what the program writes.
pub mod Front
