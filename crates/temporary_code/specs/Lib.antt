pub mod Instructions
pub mod Temporaries
