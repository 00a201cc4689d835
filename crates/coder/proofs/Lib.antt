pub mod Gates
pub mod Together
pub mod Told
