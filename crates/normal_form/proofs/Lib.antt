pub mod ConstantCounts
pub mod ConstantEquations
pub mod ConstantExpressions
pub mod ConstantForms
