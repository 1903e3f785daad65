pub mod State
pub mod Receive
pub mod Start
pub mod Valid
pub mod Promise
