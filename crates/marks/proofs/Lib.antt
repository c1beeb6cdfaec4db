pub mod Marking
pub mod PlaceOn
