pub mod WellFormed
pub mod Bytewise
pub mod Boundary
pub mod Scalar
