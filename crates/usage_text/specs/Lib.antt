pub mod Laws
pub mod Usage
