pub mod Text
pub mod Sheet
