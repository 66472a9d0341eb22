pub mod RowVerdict
pub mod Outcome
pub mod Promises
