pub mod Beginnings
pub mod Memories
pub mod Values
