pub mod Visiting
pub mod Trying
pub mod Bounding
pub mod Seeking
pub mod Extending
pub mod Starting
