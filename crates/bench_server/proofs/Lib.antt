pub mod ValidLaws
pub mod PartLaws
