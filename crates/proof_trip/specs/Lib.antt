pub mod Begun
pub mod Exact
pub mod Taken
pub mod Held
