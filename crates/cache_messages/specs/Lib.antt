pub mod Filters
pub mod Messages
