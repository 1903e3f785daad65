pub mod KindLaws
pub mod FirstLaws
pub mod HeldLaws
pub mod RulesLaws
pub mod PageLaws
pub mod FormedLaws
pub mod TextLaws
pub mod Examples
