pub mod View
pub mod There
pub mod Changed
pub mod Found
