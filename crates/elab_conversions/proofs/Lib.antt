pub mod ConstantEquations
pub mod Kept
