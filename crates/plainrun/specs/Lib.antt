pub mod Running
pub mod Erased
pub mod Exactly
pub mod Trials
