pub mod Terms
pub mod Bytes
pub mod Server
pub mod Cache
