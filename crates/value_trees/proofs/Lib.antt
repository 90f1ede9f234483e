pub mod Maps
pub mod Sets
pub mod Depths
pub mod Spelling
pub mod Trees
