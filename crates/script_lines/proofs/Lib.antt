pub mod FindLaws
pub mod Fills
pub mod Decimals
pub mod WordLaws
pub mod NumberLaws
pub mod ByteLaws
