pub mod ConstantExecution
pub mod ConstantValue
