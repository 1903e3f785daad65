pub mod ServerCalls
pub mod CacheCalls
