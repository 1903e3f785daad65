pub mod Messages
pub mod Sent
pub mod Server
pub mod Row
pub mod Refusal
pub mod Begin
