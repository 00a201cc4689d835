mod Parts
mod Given
mod Whole
