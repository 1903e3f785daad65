pub mod State
pub mod Words
pub mod Reaction
pub mod Begin
