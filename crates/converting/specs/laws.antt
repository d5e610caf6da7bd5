-- Laws of what a converter reads and writes.
pub mod Convert
pub mod Lent
pub mod Long
pub mod Forms
pub mod Room
