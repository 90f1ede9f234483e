pub mod Qualified
pub mod Compatible
pub mod Translated
pub mod Composite
