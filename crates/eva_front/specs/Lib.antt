pub mod Answer
pub mod Command
pub mod FileNames
pub mod FrontEnd
pub mod Outside
pub mod Refusals
pub mod Report
