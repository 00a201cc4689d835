pub mod Bandwise
pub mod Descend
pub mod Levelwise
