pub mod Beside
pub mod Level
pub mod Weighing
