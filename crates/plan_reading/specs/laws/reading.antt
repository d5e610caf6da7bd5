-- Laws of the reading from the front: one step, the whole walk, the tests at its end, and where it refuses.
pub mod PlanLength
pub mod First
pub mod Steps
pub mod Onward
pub mod Walk
pub mod Walked
pub mod Fits
pub mod Absent
pub mod Closing
pub mod Refusals
pub mod Long
