pub mod Splitting
pub mod Lines
pub mod Files
pub mod ReaderAnswers
pub mod Responding
pub mod Longer
