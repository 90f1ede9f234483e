pub mod Elaborating
pub mod Beginning
pub mod Steps
pub mod Complete
pub mod Objects
pub mod Linkage
pub mod Tags
pub mod Structs
