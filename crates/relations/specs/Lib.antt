pub mod Climb
pub mod Lists
pub mod Related
