-- Laws of what is loaded of the input, and of what a converter wrote.
pub mod Held
pub mod Inside
