pub mod Report
pub mod Stages
