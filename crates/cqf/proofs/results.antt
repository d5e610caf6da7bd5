-- What is proved of one plan.
pub mod Theorem
pub mod LighterTheorem
pub mod AnyOrderTheorem
