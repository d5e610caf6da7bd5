-- Texts worked out.
pub mod K
