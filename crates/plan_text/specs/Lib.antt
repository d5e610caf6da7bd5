-- A plan's text: what its lines say, the plan that they make, and the text of a plan.
pub mod Names
pub mod Grammar
pub mod Kinds
pub mod Line
pub mod Text
pub mod Print
pub mod Reading
pub mod Drafting
pub mod Outcome
pub mod laws
pub mod worked
