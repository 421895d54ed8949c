pub mod WordLaws
pub mod Filling
pub mod MarkLaws
pub mod HeadLaws
pub mod FillLaws
pub mod ReaderLaws
