-- Laws of gate control lists.
pub mod States
pub mod Played
pub mod TwoCycles
