pub mod Plan
pub mod Messages
pub mod Server
pub mod Cache
pub mod Calls
