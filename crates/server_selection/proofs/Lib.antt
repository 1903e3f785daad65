pub mod LocateLaws
pub mod ReachLaws
pub mod AskedLaws
pub mod FilterLaws
pub mod PutLaws
pub mod ItemLaws
pub mod RequestLaws
