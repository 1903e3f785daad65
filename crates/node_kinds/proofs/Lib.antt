pub mod FloatLaws
pub mod SignedLaws
pub mod LimitLaws
pub mod StoredLaws
pub mod SizedLaws
pub mod Specimens
