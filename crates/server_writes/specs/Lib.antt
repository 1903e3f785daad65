pub mod Offer
pub mod Entry
pub mod Response
