pub mod WordLaws
pub mod StateLaws
pub mod BeginLaws
pub mod ReactLaws
pub mod NarrowLaws
