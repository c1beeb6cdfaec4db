pub mod Gathering
pub mod Entry
pub mod Table
