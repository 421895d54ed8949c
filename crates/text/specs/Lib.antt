pub mod Places
pub mod Decimals
pub mod Drawing
