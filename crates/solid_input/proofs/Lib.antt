pub mod Fronts
pub mod Letters
