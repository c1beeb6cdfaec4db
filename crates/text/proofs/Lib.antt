pub mod Decimals
pub mod Lines
pub mod Over
pub mod Listing
