pub mod ConstantRun
pub mod ConstantSound
