pub mod ServerCalls
pub mod CacheCalls
pub mod Holds
pub mod Start
pub mod Run
pub mod Main
