pub mod Contents
pub mod Reached
pub mod PackedTables
