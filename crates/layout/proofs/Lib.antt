pub mod WordLaws
pub mod NodeLaws
pub mod Trees
