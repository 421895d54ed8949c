pub mod OwnRow
pub mod Heights
pub mod UseCounts
pub mod Lowest
pub mod Reaching
pub mod Scopes
pub mod TreeForms
pub mod Agreement
