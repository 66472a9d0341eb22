mod OutcomeLaws
pub mod Unique
