pub mod Spelling
pub mod Printed
