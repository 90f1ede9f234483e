pub mod Edges
pub mod Copies
pub mod Grown
pub mod Widened
pub mod Equal
