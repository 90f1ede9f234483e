pub mod Trees
pub mod Writes
pub mod Counted
pub mod Answered
