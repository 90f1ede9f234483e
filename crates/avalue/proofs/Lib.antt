pub mod Merging
pub mod Ends
pub mod Filters
pub mod Members
pub mod Single
