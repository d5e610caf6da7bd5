-- A plan's text as the plan's strict bytes: what is answered, and what is left in the lent buffer.
pub mod Encode
pub mod Answer
pub mod laws
pub mod worked
