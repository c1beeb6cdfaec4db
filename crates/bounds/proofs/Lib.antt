pub mod Inserting
pub mod Columns
pub mod Entries
