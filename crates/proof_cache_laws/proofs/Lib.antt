pub mod BoundLaws
pub mod ReceiveLaws
pub mod BegunLaws
pub mod KeptLaws
pub mod NeverLaws
pub mod NarrowLaws
