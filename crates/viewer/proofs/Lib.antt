pub mod Gates
pub mod Windows
