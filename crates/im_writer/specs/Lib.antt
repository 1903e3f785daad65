pub mod Envelope
pub mod Spelling
pub mod Block
pub mod Message
pub mod Meaning
