-- Laws of bytes that are written from a position on, of the bytes of lines, and of what the writing of a text answers.
pub mod Puts
pub mod Digits
pub mod Bytes
pub mod Lines
pub mod Flow
pub mod Whole
pub mod Text
pub mod Length
