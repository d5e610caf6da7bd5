-- What holds of a field that is written.
pub mod ReadBack
