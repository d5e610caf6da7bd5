-- The plan of tables that are lent beside their form's number.
pub mod Formed
