pub mod Upstream
pub mod OneMore
pub mod Outlooks
pub mod Falling
pub mod Undoing
pub mod Entering
pub mod Saving
