pub mod SpellingLaws
pub mod EnvelopeLaws
pub mod LengthLaws
pub mod BlockLaws
pub mod MessageLaws
pub mod Examples
