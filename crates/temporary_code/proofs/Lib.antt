pub mod Lists
pub mod SameTypes
