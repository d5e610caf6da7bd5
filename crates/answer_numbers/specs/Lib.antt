-- The number of each answer.
pub mod Number
