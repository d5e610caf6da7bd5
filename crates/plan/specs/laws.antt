-- Laws of the definitions: numbers in bytes, heads, values, routes.
pub mod Whole
pub mod Lists
pub mod Lengths
pub mod Route
pub mod Tested
