pub mod Paths
pub mod Filling
pub mod Chains
pub mod Calls
pub mod HVStations
pub mod Breakers
pub mod Totals
