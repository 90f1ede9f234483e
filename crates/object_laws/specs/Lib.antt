pub mod Lawful
pub mod Same
