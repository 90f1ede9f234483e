pub mod Integers
pub mod Pointers
