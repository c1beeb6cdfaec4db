pub mod Fitting
pub mod Near
pub mod Lengths
pub mod Full
mod Chains
mod Codes
mod Linking
mod Following
mod Leaving
mod Laying
mod Adding
mod Queueing
