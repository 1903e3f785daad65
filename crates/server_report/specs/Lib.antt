pub mod Blocks
pub mod Chunk
pub mod Offer
pub mod Part
