pub mod CompleteEquations
pub mod ConstEquations
