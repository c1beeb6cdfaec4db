pub mod Held
pub mod Below
