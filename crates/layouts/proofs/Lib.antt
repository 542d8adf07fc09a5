pub mod Lengths
pub mod Packing
pub mod Reading
