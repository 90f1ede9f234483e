pub mod Scope
pub mod Input
pub mod Signs
pub mod Parser
pub mod Words
pub mod Numbers
pub mod Gives
