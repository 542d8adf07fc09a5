pub mod Listed
pub mod Numbered
