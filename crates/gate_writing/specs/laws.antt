-- Laws of the bytes of a gate control list, of gate states, and of the answer.
pub mod Gates
pub mod List
pub mod States
pub mod Outcome
