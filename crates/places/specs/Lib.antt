pub mod Sizes
pub mod Walk
