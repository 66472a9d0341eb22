mod RowLaws
pub mod Unique
