pub mod OpenLaws
pub mod LeaveLaws
pub mod PartLaws
