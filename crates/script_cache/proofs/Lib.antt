pub mod EntryLaws
pub mod RoomLaws
