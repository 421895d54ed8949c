pub mod Response
pub mod Stages
