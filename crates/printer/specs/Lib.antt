pub mod ListCalls
pub mod NodeLists
