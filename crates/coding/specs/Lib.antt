pub mod Codes
pub mod Fields
pub mod Params
pub mod Undoing
