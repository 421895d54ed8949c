pub mod Input
pub mod Given
pub mod Lines
pub mod Printed
pub mod Responds
pub mod Held
pub mod Answers
