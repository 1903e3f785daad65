pub mod ListLaws
pub mod BackLaws
pub mod ReaderLaws
