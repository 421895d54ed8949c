pub mod Digits
pub mod Rounds
pub mod Writing
pub mod Signs
