-- Gate control lists (document 02): the list of a duration, and how a list is played.
pub mod GateList
pub mod Playing
pub mod laws
pub mod results
