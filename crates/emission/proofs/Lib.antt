pub mod Emission
pub mod Finishing
