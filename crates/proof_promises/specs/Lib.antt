pub mod World
pub mod Runs
pub mod Claims
pub mod Never
pub mod Follows
