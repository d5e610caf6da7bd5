-- The reading of a whole plan (document 01): what a field of each kind gives, stores and repeats, and the walk over the fields; and
-- as which fields and bytes a plan is saved (document 02).
pub mod Part
pub mod Rank
pub mod Key
pub mod Put
pub mod Store
pub mod Draft
pub mod Reading
pub mod FieldOrder
pub mod Strict
pub mod FieldBytes
pub mod Saved
pub mod Overlong
pub mod SameParts
pub mod Relength
pub mod Sized
pub mod Tidy
pub mod Ranges
pub mod laws
pub mod results
