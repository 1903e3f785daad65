pub mod Float
pub mod Limits
pub mod Stored
