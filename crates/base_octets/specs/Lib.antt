pub mod Number
pub mod Store
