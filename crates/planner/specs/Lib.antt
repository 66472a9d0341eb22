pub mod Recordings
pub mod Figures
pub mod Seconds
pub mod Records
pub mod Sheets
pub mod Version
