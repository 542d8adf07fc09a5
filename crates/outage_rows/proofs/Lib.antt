pub mod Computing
pub mod Refusals
pub mod Example
pub mod Open
pub mod Contains
pub mod Rows
pub mod Boxes
pub mod Either
