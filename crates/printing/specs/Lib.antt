pub mod Asked
pub mod Failing
pub mod Reports
