pub mod Searching
pub mod Changing
pub mod Planning
pub mod Based
