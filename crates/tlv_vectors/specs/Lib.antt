pub mod Hex
pub mod Put
