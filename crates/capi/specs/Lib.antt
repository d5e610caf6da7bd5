-- The outcomes of the calls as numbers, as include/cycle_planner.h tells them.
pub mod Numbers
pub mod Emission
pub mod Text
pub mod Meaning
pub mod Loads
pub mod laws
