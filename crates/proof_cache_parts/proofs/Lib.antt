pub mod RoomLaws
pub mod OnceLaws
pub mod PositionLaws
pub mod PartLaws
