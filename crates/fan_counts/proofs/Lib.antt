pub mod Shuffles
pub mod Counts
pub mod Results
pub mod Telling
pub mod Orders
