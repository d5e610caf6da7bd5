-- Laws of the code's slots.
pub mod Slots
pub mod Calls
pub mod Held
