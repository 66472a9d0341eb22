mod JudgeLaws
pub mod Unique
