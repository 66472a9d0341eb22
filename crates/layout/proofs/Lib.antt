pub mod TextLaws
pub mod SheetLaws
pub mod Cases
