-- Laws of tables: filled port by port, and by their form.
pub mod Marks
pub mod Route
pub mod Forms
