pub mod Cutter
pub mod Checked
pub mod Laws
pub mod Pictures
