pub mod Rows
pub mod BandScript
pub mod Calls
pub mod Steps
pub mod Grading
