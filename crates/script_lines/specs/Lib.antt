pub mod Find
pub mod Words
pub mod Numbers
pub mod Paths
pub mod Bytes
pub mod Values
