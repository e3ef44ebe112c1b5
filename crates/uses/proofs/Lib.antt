pub mod Filling
pub mod Comparing
pub mod Heads
pub mod Within
pub mod Opened
pub mod Required
