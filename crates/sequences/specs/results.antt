-- What is proved over sequences of calls.
pub mod Theorem
pub mod NoPlan
pub mod IterationsTheorem
pub mod SaveTheorem
pub mod FormsTheorem
pub mod GatesTheorem
pub mod LighterTheorem
pub mod RepricedTheorem
pub mod LeanTheorem
pub mod SpansTheorem
pub mod NearestTheorem
