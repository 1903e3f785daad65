pub mod Report
pub mod Kept
pub mod Answered
pub mod Lists
