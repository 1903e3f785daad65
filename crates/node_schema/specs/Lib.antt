pub mod Layout
pub mod Rows
pub mod Check
pub mod Rules
pub mod Search
pub mod Find
