mod WriteLaws
pub mod Unique
