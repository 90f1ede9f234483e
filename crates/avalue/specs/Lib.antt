pub mod Pointers
pub mod Values
pub mod Members
