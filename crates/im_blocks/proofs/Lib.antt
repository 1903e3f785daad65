pub mod BlockLaws
pub mod DataLaws
pub mod CodeLaws
pub mod OrderLaws
pub mod OnLaws
pub mod SizeLaws
