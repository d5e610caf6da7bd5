-- Laws of the definitions, theorems, and examples worked out.
pub mod laws
pub mod results
pub mod worked
