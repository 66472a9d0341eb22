pub mod Places
mod Limits
pub mod Unique
