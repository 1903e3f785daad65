pub mod AskLaws
pub mod SaidLaws
