pub mod ActionLaws
