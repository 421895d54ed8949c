pub mod Room
pub mod RunWords
