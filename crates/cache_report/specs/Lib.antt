pub mod Block
pub mod Entry
pub mod Part
pub mod Words
