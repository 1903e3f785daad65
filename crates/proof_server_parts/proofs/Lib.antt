pub mod FilterLaws
pub mod ValueLaws
pub mod RowLaws
pub mod TakenLaws
pub mod PartLaws
