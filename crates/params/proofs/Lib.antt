pub mod FieldAtLaws
pub mod ValuesLaws
pub mod Unique
