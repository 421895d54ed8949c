pub mod Checks
pub mod AnswerWords
pub mod Walks
