pub mod Climbing
pub mod Above
pub mod Listing
pub mod Routed
