-- The newer form: the fields as which a plan is saved in it, that they are read back, and that they are the bytes that were read.
pub mod Fields
pub mod Order
pub mod Row
pub mod Back
pub mod Length
pub mod Relength
