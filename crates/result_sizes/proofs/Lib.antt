pub mod Vertices
pub mod Measures
