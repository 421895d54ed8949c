-- Demand 3 of the maker for callers in C and Rust, and bands for them.
pub mod MakeDemand
pub mod BandsServe
