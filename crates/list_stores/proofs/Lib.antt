pub mod Kept
pub mod Stores
pub mod Runs
