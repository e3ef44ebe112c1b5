pub mod Charts
pub mod Marks
