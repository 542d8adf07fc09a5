pub mod Blanks
pub mod Parts
