pub mod Lower
pub mod AddUp
pub mod Robust
