pub mod Access
pub mod Table
