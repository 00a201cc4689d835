pub mod Near
pub mod Pieces
