pub mod Path
pub mod Filter
pub mod Status
pub mod Data
