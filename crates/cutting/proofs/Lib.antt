pub mod Held
pub mod Bounds
pub mod Sheets
pub mod Prints
pub mod Input
