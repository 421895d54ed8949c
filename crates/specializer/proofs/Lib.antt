pub mod Making
pub mod Exactly
pub mod EntryDemand
pub mod Trials
