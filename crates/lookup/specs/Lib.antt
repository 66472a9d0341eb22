pub mod Given
pub mod Outcome
pub mod Ready
pub mod Promises
