pub mod ScalarLaws
pub mod FieldLaws
pub mod MeaningLaws
pub mod ArrayLaws
pub mod OrderLaws
pub mod PassCases
pub mod PassLaws
pub mod ItemLaws
