pub mod OpenLaws
pub mod Unique
