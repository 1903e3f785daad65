pub mod Server
pub mod Messages
pub mod Specimens
