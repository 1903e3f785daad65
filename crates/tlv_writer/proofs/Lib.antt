pub mod Widths
pub mod Signed
pub mod Octets
pub mod Spelling
pub mod Least
pub mod Examples
pub mod ReadBack
