pub mod Equations
pub mod CompositeEquations
