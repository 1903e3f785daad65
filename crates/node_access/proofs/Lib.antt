pub mod EntryLaws
pub mod AccessLaws
pub mod RuleLaws
pub mod GrantLaws
pub mod SearchLaws
pub mod Examples
