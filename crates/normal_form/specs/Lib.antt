pub mod ConstantExpression
pub mod ConstantForm
pub mod ConstantNorm
