pub mod LabelEquations
pub mod NumberingEquations
pub mod SizeEquations
