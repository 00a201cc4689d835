pub mod Heads
pub mod Laws
pub mod Stores
pub mod Turned
pub mod Wholes
