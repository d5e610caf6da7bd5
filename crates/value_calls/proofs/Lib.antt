-- What the calls by value say of the tables that they lend.
pub mod Lending
