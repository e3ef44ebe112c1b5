pub mod Lines
pub mod Choice
pub mod Answer
