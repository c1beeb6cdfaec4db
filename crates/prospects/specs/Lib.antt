pub mod Changes
pub mod Chosen
