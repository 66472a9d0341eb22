pub mod Outcome
pub mod Steps
pub mod Promises
