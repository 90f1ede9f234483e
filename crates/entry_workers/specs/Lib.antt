pub mod Lists
pub mod Drawing
pub mod Working
