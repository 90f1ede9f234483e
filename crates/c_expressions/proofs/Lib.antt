pub mod SpecifierLists
pub mod ParameterLists
