pub mod ConstantNorms
pub mod ConstantRuns
pub mod ConstantSteps
