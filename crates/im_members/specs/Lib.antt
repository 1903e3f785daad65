pub mod Fields
pub mod Order
pub mod Scalar
pub mod Array
pub mod Pass
pub mod Item
