pub mod Analysis
pub mod Points
pub mod Lone
pub mod Executions
pub mod Soundness
pub mod Bounds
pub mod Graphs
