-- The answer of a call, and the numbers of refusals in documents 01 and 02.
pub mod Answer
pub mod Refusals
