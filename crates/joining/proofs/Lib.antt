pub mod Gates
pub mod Halves
pub mod Lists
pub mod Pairs
pub mod Together
