-- Laws of a field's interval.
pub mod Entry
