pub mod Reading
pub mod Cuts
