pub mod Status
pub mod Locate
pub mod Reach
pub mod Asked
pub mod Request
pub mod Filters
pub mod Items
