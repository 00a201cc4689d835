pub mod Sifting
pub mod Tallies
