-- Worked examples.
pub mod BadEmission
