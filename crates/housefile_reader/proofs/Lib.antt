pub mod Kept
pub mod Walks
pub mod Outcomes
