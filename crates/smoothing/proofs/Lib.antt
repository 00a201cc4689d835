pub mod Around
pub mod Cells
pub mod Gates
pub mod Runs
pub mod Steps
