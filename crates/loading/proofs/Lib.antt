mod Turns
mod Loads
pub mod Held
