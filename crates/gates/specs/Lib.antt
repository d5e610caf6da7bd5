-- The fields of a gate control list, as the program reads them back.
pub mod laws
