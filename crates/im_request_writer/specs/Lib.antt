pub mod Request
pub mod Meaning
