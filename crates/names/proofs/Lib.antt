pub mod Charting
pub mod Marking
pub mod Climbing
pub mod Freeing
pub mod Forming
pub mod Made
