-- Laws of lines, words and numbers in decimal digits.
pub mod Run
pub mod Lines
pub mod Words
pub mod Decimal
