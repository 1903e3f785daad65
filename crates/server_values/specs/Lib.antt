pub mod Values
pub mod Change
pub mod Fresh
pub mod Valid
pub mod Quick
pub mod Storing
