pub mod Cells
pub mod AfterRun
