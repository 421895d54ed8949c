pub mod Machine
pub mod Stores
pub mod Start
