pub mod Meeting
pub mod Passing
pub mod FarEnds
