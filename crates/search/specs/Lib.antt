pub mod Members
pub mod Walking
