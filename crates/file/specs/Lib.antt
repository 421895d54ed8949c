pub mod Encodable
pub mod Written
pub mod AcceptedFile
pub mod Demand
