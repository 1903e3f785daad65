pub mod Message
pub mod Status
pub mod Read
pub mod Write
pub mod Lists
