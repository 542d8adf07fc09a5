pub mod Line
pub mod Answers
pub mod Enough
pub mod Words
