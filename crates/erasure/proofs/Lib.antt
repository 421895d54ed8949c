pub mod Words
pub mod Passes
pub mod ErasedNodes
