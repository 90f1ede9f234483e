pub mod ConstantEquations
pub mod ConstantWalk
