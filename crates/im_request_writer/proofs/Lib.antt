pub mod RequestLaws
pub mod FilterLaws
pub mod Examples
