pub mod Graph
pub mod Sum
pub mod Tree
pub mod Labels
pub mod Climb
pub mod Behind
