pub mod Elements
pub mod Encoding
pub mod Shares
pub mod Channels
pub mod Decoding
pub mod Range
