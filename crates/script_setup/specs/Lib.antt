pub mod Setup
pub mod Access
pub mod Attributes
pub mod Lines
pub mod Schema
