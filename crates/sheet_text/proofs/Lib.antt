pub mod Each
pub mod Laws
pub mod Layouts
pub mod Lines
pub mod Spread
