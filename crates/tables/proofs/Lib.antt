pub mod ContentLaws
pub mod ScriptLaws
pub mod ReachedOnce
