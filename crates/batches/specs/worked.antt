-- A worked example.
pub mod Full
