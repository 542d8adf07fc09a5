pub mod LowerPoints
pub mod Robust
