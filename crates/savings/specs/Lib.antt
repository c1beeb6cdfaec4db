pub mod Facts
pub mod Shape
pub mod Breakers
pub mod First
pub mod Tree
pub mod Totals
pub mod Allowed
