pub mod Octet
pub mod Tree
pub mod Head
pub mod Walk
pub mod Value
pub mod Decode
