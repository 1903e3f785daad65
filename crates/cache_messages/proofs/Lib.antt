pub mod RisingLaws
pub mod BoundedLaws
pub mod FilterLaws
pub mod MessageLaws
