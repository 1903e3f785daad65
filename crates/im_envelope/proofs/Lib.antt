pub mod BigLaws
