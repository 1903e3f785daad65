-- Laws of the definitions, and the theorems.
pub mod Lines
pub mod Below
pub mod Quarters
pub mod Bytewise
pub mod Shorter
pub mod Seconds
pub mod Scalars
pub mod Joins
pub mod Cuts
pub mod Examples
