pub mod Computing
pub mod Samples
