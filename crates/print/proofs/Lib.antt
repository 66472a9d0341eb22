pub mod PrintLaws
pub mod Unique
