-- The proofs, in the order in which they build on one another.
pub mod Lists
pub mod Joins
pub mod Universes
pub mod Labels
pub mod Orders
pub mod Scopes
pub mod Meanings
pub mod Effects
pub mod Typing
pub mod Valuations
pub mod Threads
pub mod Preservation
pub mod Safety
pub mod Ceiling
pub mod Built
pub mod Worked
