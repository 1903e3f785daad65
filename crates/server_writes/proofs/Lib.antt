pub mod OfferLaws
pub mod EntryLaws
pub mod HeldLaws
pub mod LoopLaws
pub mod ResponseLaws
pub mod StatusLaws
