pub mod Equal
pub mod Tabled
pub mod Decoded
pub mod Iterated
