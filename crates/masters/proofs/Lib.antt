pub mod Descent
pub mod Numerators
pub mod Tested
