pub mod Fronts
pub mod Scans
pub mod Stored
pub mod Whole
