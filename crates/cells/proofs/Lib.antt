pub mod Words
pub mod Lookup
pub mod States
pub mod Given
