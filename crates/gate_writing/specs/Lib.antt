-- Gate control lists: the bytes of a list by the numbers that it is made of, and the code's answers.
pub mod Gates
pub mod List
pub mod Answer
pub mod Outcome
pub mod laws
