pub mod AskLaws
pub mod ServerLaws
pub mod CacheLaws
