pub mod Rows
pub mod CellLaws
pub mod CodeTrees
pub mod Charging
