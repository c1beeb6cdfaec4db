pub mod Linked
pub mod Outwards
pub mod Feeding
pub mod Held
pub mod Queue
