mod ReadLaws
pub mod Unique
