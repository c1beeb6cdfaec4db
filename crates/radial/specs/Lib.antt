pub mod Stations
pub mod Run
