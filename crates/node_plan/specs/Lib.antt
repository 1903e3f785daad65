pub mod Attributes
pub mod Check
pub mod Held
pub mod Rules
pub mod Pages
