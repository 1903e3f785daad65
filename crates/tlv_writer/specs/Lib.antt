pub mod Width
pub mod Element
pub mod Meaning
