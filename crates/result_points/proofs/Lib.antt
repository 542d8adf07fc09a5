mod Kept
mod Three
mod Reading
pub mod Results
