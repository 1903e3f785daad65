pub mod MeaningLaws
pub mod WhereLaws
pub mod PassLaws
pub mod KeptLaws
pub mod FewLaws
pub mod WordLaws
pub mod OneLaws
pub mod AnsweredLaws
