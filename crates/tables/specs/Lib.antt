-- The tables of a held plan.
pub mod Columns
pub mod Tables
pub mod laws
pub mod Lent
