pub mod Root
pub mod Running
pub mod Answers
pub mod Exactly
pub mod Trials
