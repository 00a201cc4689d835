pub mod Cells
pub mod Laws
pub mod Whole
