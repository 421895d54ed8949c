pub mod GivenNumbers
pub mod Answering
pub mod Fitting
pub mod Longer
pub mod InputA
