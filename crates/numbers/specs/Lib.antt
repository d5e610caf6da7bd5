-- What the structs of numbers stand for.
pub mod Clock
