pub mod Ranged
pub mod Placed
pub mod Turns
pub mod Places
pub mod Whole
