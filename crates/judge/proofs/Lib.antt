pub mod Stops
pub mod Orders
pub mod Stages
pub mod Verdicts
pub mod Telling
pub mod Single
pub mod Loud
pub mod Examples
