pub mod Block
pub mod Laws
