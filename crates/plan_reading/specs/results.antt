-- What is proved of the strict reading.
pub mod StrictTheorem
pub mod FormTheorem
