mod Answers
mod Calling
pub mod Lending
mod Reporting
mod Tabling
