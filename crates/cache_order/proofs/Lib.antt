pub mod Pigeonhole
pub mod CutLaws
pub mod InsertLaws
pub mod OrderLaws
pub mod MostLaws
pub mod Examples
