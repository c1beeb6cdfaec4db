pub mod Order
pub mod Runs
pub mod Listing
pub mod Answer
pub mod Limits
