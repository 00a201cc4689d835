pub mod Gates
pub mod Together
