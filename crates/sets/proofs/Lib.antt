pub mod Stops
pub mod Sets
pub mod ByPlaces
pub mod Start
