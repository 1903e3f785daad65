pub mod MessageLaws
pub mod RowLaws
pub mod RequestLaws
pub mod AskLaws
pub mod BeginLaws
pub mod PlaceLaws
pub mod KeptLaws
pub mod LentLaws
