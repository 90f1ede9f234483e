pub mod VariableEquations
