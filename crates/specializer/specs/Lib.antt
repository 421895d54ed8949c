pub mod Making
pub mod Entry
pub mod EntryDemand
pub mod Trials
pub mod Exactly
