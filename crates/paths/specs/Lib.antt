pub mod Meets
pub mod Held
