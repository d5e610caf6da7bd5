-- A text as lines, a line as words, a word as a number.
pub mod Run
pub mod Lines
pub mod Words
pub mod Sizes
pub mod Decimal
pub mod laws
