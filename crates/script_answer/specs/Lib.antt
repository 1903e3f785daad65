pub mod Text
pub mod Messages
