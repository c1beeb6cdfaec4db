pub mod Own
pub mod Held
pub mod Outlook
