pub mod Limits
pub mod Values
pub mod Entries
pub mod Texts
pub mod Set
pub mod Coherent
pub mod Valid
