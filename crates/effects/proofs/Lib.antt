pub mod Lists
pub mod Naming
pub mod Steps
pub mod Sheets
pub mod Orders
pub mod Picks
pub mod Tried
pub mod Telling
