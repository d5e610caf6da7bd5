-- Laws of the numbers.
pub mod Meaning
pub mod StepsMeaning
pub mod GatesMeaning
pub mod SpansMeaning
pub mod NearestMeaning
pub mod Clear
