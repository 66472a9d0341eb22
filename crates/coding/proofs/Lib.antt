pub mod CodesLaws
pub mod PutBitsLaws
pub mod FieldsLaws
pub mod BackLaws
pub mod Undoing
pub mod Cases
