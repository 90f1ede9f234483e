pub mod Bounds
pub mod Turns
pub mod Scopes
pub mod Lists
pub mod Rows
pub mod Seen
