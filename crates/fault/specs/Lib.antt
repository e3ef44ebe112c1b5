pub mod Items
pub mod Faults
pub mod First
