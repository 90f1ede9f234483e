pub mod Definitions
pub mod Entries
pub mod Headline
pub mod Judged
pub mod Reading
pub mod Texts
pub mod Tokens
pub mod Unique
