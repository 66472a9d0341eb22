mod RunLaws
pub mod Unique
